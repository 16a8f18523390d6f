use Rattle.lio_start.proofs.LawLemmas.{cells_stand_in_order}
use Rattle.lio_start.proofs.laws.cells_stand_in_order.Goals as goal

pub returns : goal.returns
returns c = cells_stand_in_order
