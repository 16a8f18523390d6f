use Rattle.std.proofs.Common.{◌≡◌, ℕ, ◌<◌, ◌^◌, Bool, List, sym, ◌∙◌, ap}
use Rattle.std.proofs.lemmas.Bool.{ltb-true}
use Rattle.lio_clauses.specs.Principals.{principals}
use Rattle.lio_clauses.specs.Satisfaction.{sat, set_of}
use Rattle.lio_clauses.proofs.Members.{All-In, same_tests}
use Rattle.lio_clauses.proofs.Implied.{sat-grows}
use Rattle.lio_clauses.proofs.Forms.{named-small}
use Rattle.lio_clauses.proofs.ClauseBits.{meets-sat}
use Rattle.lio_clauses.proofs.formula.Formula.satisfied_by.Goals as goal

test : (c : goal.After-are_met) → c.are_met.result ≡ sat (set_of (principals c.args.who)) c.args.self.now
test c =
    c.are_met.ensures
    ∙ meets-sat c.clauses.result.now c.args.who (All-In (λ m. m < 2 ^ 64) c.clauses.result.now c.clauses.ensures.fits) c.ranges.who.fits
    ∙ ap (sat (set_of (principals c.args.who))) c.clauses.ensures.masks

pub returns-clause-test : goal.returns-clause-test
returns-clause-test c = test c

pub returns-clause-set : goal.returns-clause-set
returns-clause-set c =
    λ P same.
    let A : List (List ℕ) = c.args.self.now in
    let who : ℕ → Bool = set_of (principals c.args.who) in
    test c ∙
    same_tests (sat who A) (sat P A)
    (sat-grows A who P (λ n m t. same n (ltb-true n 64 (named-small A c.clauses.ensures.canonical.clauses n m)) ∙ t))
    (sat-grows A P who (λ n m t. sym (same n (ltb-true n 64 (named-small A c.clauses.ensures.canonical.clauses n m))) ∙ t))
