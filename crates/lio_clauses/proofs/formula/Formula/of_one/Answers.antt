use Rattle.std.proofs.Common.{◌≡◌, ℕ, Bool, true, false, ◌&&◌, ◌||◌, ◌∷◌, [], refl, sym, ap, subst, ◌∙◌}
use Rattle.lio_clauses.specs.Principals.{principals}
use Rattle.lio_clauses.specs.Satisfaction.{sat}
use Rattle.lio_clauses.specs.Bits.{IsFormula}
use Rattle.lio_clauses.proofs.ClauseBits.{IsFormula-one, principals-pow, one_shifted}
use Rattle.lio_clauses.proofs.formula.Formula.of_one.Goals as goal

pub invariant_of-result : goal.invariant_of-result
invariant_of-result c =
    let p = one_shifted c.args.n c.requires in
    let P : ℕ → Type 0 = λ v. IsFormula (v ∷ []) in
    record { formula = subst P (sym p.0) (IsFormula-one _ p.1); shared = tt }

pub returns-clause-ok : goal.returns-clause-ok
returns-clause-ok c = ap (λ v. principals v ∷ []) (one_shifted c.args.n c.requires).0 ∙ ap (λ v. v ∷ []) (principals-pow c.args.n c.requires)

one : (b : Bool) → ((b || false) && true) ≡ b
one true = refl
one false = refl

pub returns-clause-sets : goal.returns-clause-sets
returns-clause-sets c = λ who. ap (sat who) (returns-clause-ok c) ∙ one (who c.args.n)
