use Rattle.std.proofs.Common.{◌≡◌, ◌<◌, ◌^◌, map, sym, ◌∙◌, ap}
use Rattle.std.specs.Cmp.Lexicographic.{same_text}
use Rattle.lio_clauses.specs.Principals.{principals}
use Rattle.lio_clauses.specs.Implication.{implies}
use Rattle.lio_clauses.proofs.Members.{All-In}
use Rattle.lio_clauses.proofs.Algebra.{implication_is_reflexive}
use Rattle.lio_clauses.proofs.ClauseBits.{covers-implies}
use Rattle.lio_clauses.proofs.formula.Formula.implies_each.Goals as goal

pub returns-then-eq : goal.returns-then-eq
returns-then-eq c =
    let same : c.args.self.now ≡ c.args.other.now =
    sym c.clauses-left.ensures.masks ∙ ap (map principals) (same_text c.clauses-left.result.now c.clauses-right.result.now (sym c.if-eq.true ∙ c.eq.ensures))
    ∙ c.clauses-right.ensures.masks
    in
    c.if-eq.true ∙ sym (implication_is_reflexive c.args.self.now) ∙ ap (implies c.args.self.now) same

pub returns-else-eq : goal.returns-else-eq
returns-else-eq c =
    c.are_covered.ensures
    ∙ covers-implies c.clauses-left.result.now c.clauses-right.result.now
    (All-In (λ m. m < 2 ^ 64) c.clauses-left.result.now c.clauses-left.ensures.fits)
    (All-In (λ m. m < 2 ^ 64) c.clauses-right.result.now c.clauses-right.ensures.fits)
    ∙ ap (λ v. implies v (map principals c.clauses-right.result.now)) c.clauses-left.ensures.masks ∙ ap (implies c.args.self.now) c.clauses-right.ensures.masks
