use Rattle.std.proofs.Common.{◌≡◌, ◌<◌, ◌^◌, ◌++◌, map, sym, ◌∙◌, ap}
use Rattle.lio_clauses.specs.Principals.{principals}
use Rattle.lio_clauses.specs.Implication.{implies}
use Rattle.lio_clauses.proofs.Members.{All-In}
use Rattle.lio_clauses.proofs.Implied.{implies-Implies, Implies-implies, together-Implies, Implies-together}
use Rattle.lio_clauses.proofs.ClauseBits.{covers-both}
use Rattle.lio_clauses.proofs.formula.Formula.implies_with.Goals as goal

test : (c : goal.After-are_covered) → c.are_covered.result ≡ implies (c.args.self.now ++ c.args.with.now) c.args.other.now
test c =
    c.are_covered.ensures
    ∙ covers-both c.clauses.result.now c.clauses-2.result.now c.clauses-3.result.now
    (All-In (λ m. m < 2 ^ 64) c.clauses.result.now c.clauses.ensures.fits)
    (All-In (λ m. m < 2 ^ 64) c.clauses-2.result.now c.clauses-2.ensures.fits)
    (All-In (λ m. m < 2 ^ 64) c.clauses-3.result.now c.clauses-3.ensures.fits)
    ∙ ap (λ v. implies (v ++ map principals c.clauses-2.result.now) (map principals c.clauses-3.result.now)) c.clauses.ensures.masks
    ∙ ap (λ v. implies (c.args.self.now ++ v) (map principals c.clauses-3.result.now)) c.clauses-2.ensures.masks
    ∙ ap (implies (c.args.self.now ++ c.args.with.now)) c.clauses-3.ensures.masks

pub returns-clause-test : goal.returns-clause-test
returns-clause-test c = test c

pub returns-clause-all_sets : goal.returns-clause-all_sets
returns-clause-all_sets c = (
  λ t. Implies-together c.args.self.now c.args.with.now c.args.other.now (implies-Implies (c.args.self.now ++ c.args.with.now) c.args.other.now (sym (test c) ∙ t)),
  λ h. test c ∙ Implies-implies (c.args.self.now ++ c.args.with.now) c.args.other.now (together-Implies c.args.self.now c.args.with.now c.args.other.now h),
)
