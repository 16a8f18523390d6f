use Rattle.lio_calculus.proofs.LocalityLemmas.{step_makes_the_same_cells}
use Rattle.lio_calculus.proofs.laws.step_makes_the_same_cells.Goals as goal

pub returns : goal.returns
returns c = step_makes_the_same_cells
