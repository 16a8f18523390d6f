-- A seat may go to another thread, and a table may be shared.
use denote.Param.Send.{IsSend, IsSync, sendable}
use denote.Param.SendFields.{declared_sync, as_row_sync}
use Rattle.std.proofs.Crossing.{crosses}
use Rattle.lio_task.proofs.Crossing.{holder-send}
use Rattle.lio_task.specs.contracts.config.Holder as G
use Rattle.lio_values.proofs.held.Held.TheSendSync as held
use Rattle.lio_values.specs.contracts.held.Held as D
use Rattle.atomic_table.proofs.owned.Table.TheSendSync as nodes
use Rattle.atomic_table.proofs.shared.Seat.TheSendSync as seat
use Rattle.lio_table.specs.contracts.seat.LioSeat as Seat
use Rattle.lio_table.specs.contracts.table.Table as Table

held-send : IsSend (D.the_row G.the_row)
held-send = held.the_send G.the_row holder-send

pub seat-send : IsSend Seat.the_row
seat-send = search (sendable, crosses, seat.the_send, held-send) depth 100 fits 20000

pub table-sync : IsSync Table.the_row
table-sync = declared_sync Table.the_type (search (sendable, crosses, as_row_sync, nodes.the_sync, nodes.the_field_sync, held-send) depth 100 fits 20000, (search (sendable, crosses, as_row_sync), (search (sendable, crosses, as_row_sync), tt)))
