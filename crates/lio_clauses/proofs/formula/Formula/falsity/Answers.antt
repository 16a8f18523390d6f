use Rattle.std.proofs.Common.{◌∷◌, [], ap, lit<, sym, ◌∙◌}
use Rattle.std.proofs.lemmas.Bool.{true≢false}
use Rattle.lio_clauses.specs.Satisfaction.{sat}
use Rattle.lio_clauses.proofs.ClauseBits.{IsFormula-one, principals-zero}
use Rattle.lio_clauses.proofs.formula.Formula.falsity.Goals as goal

pub invariant_of-result : goal.invariant_of-result
invariant_of-result c = record { formula = IsFormula-one 0 (lit< tt); shared = tt }

pub returns-clause-ok : goal.returns-clause-ok
returns-clause-ok c = ap (λ v. v ∷ []) principals-zero

pub returns-clause-sets : goal.returns-clause-sets
returns-clause-sets c = λ who t. true≢false (sym t ∙ ap (sat who) (returns-clause-ok c))
