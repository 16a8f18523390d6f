use Rattle.lio_cells.specs.State.{ready}
use Rattle.lio_cells.proofs.ready.ready.Goals as goal

pub returns-in-Put : goal.returns-in-Put
unfolding ready
returns-in-Put c = rw c.in-Put.is (assumption)

pub returns-in-Wait : goal.returns-in-Wait
unfolding ready
returns-in-Wait c = rw c.in-Wait.is (assumption)
