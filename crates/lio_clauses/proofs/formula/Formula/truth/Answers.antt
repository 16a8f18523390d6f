use Rattle.lio_clauses.proofs.ClauseBits.{IsFormula-none}
use Rattle.lio_clauses.proofs.formula.Formula.truth.Goals as goal

pub invariant_of-result : goal.invariant_of-result
invariant_of-result c = record { formula = IsFormula-none; shared = tt }
