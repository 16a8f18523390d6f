-- A configuration may go to another thread.
use denote.Param.Send.{IsSend, sendable}
use Rattle.std.proofs.Crossing.{crosses}
use Rattle.lio_cells.proofs.Crossing.{node-send}
use Rattle.lio_task.proofs.TaskCrossing.{task-send}
use Rattle.lio_task.specs.contracts.config.Config as C
use Rattle.lio_task.specs.contracts.config.Holder as G

pub holder-send : IsSend G.the_row
holder-send = search (sendable, crosses, node-send, task-send) depth 100 fits 20000

pub config-send : IsSend C.the_row
config-send = search (sendable, crosses, holder-send) depth 100 fits 20000
