use Rattle.lio_calculus.proofs.LocalityLemmas.{step_looks_at_two_cells}
use Rattle.lio_calculus.proofs.laws.step_looks_at_two_cells.Goals as goal

pub returns : goal.returns
returns c = step_looks_at_two_cells
