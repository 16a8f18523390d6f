-- Values and entries may go to another thread, and threads may share plain values. Of types that lead back to themselves, as lists of values do, this is said
-- from what their parts may.
use denote.Param.Send.{IsSend, IsSync, sendable}
use denote.Param.SendFields.{declared_send, as_row_send, as_row_sync}
use Rattle.std.proofs.Crossing.{crosses}
use Rattle.lio_values.proofs.items.Items.TheLaws.TheKnot as knot
use Rattle.lio_values.proofs.held.Held.TheSendSync as held
use Rattle.lio_values.proofs.list.List.TheSendSync as list
use Rattle.lio_values.proofs.text.Text.TheSendSync as text
use Rattle.lio_labels.proofs.label.Label.TheSendSync as label
use Rattle.lio_labels.proofs.privilege.Priv.TheSendSync as power
use Rattle.lio_values.proofs.value.Handle.TheSendSync as handle
use Rattle.lio_labels.specs.contracts.label.Label as L
use Rattle.lio_labels.specs.contracts.privilege.Priv as W
use Rattle.lio_values.specs.contracts.value.Handle as H
use Rattle.lio_values.specs.contracts.act.Act as A
use Rattle.lio_values.specs.contracts.act.Birth as B
use Rattle.lio_values.specs.contracts.act.Reply as R
use Rattle.lio_values.specs.contracts.entry.Entry as E
use Rattle.lio_values.specs.contracts.fault.Fault as F
use Rattle.lio_values.specs.contracts.items.Items as I
use Rattle.lio_values.specs.contracts.text.Text as T
use Rattle.lio_values.specs.contracts.value.Content as C
use Rattle.lio_values.specs.contracts.value.Plain as P
use Rattle.lio_values.specs.contracts.value.Value as V

items-send : IsSend I.the_row
items-send =
    knot.send-Items list.the_send (as_row_send L.the_field label.the_field_send) (as_row_send W.the_field power.the_field_send) (search (sendable, as_row_send)) held.the_send (search (sendable, as_row_send)) (search (sendable, as_row_send))
    (as_row_send T.the_field text.the_send) (as_row_send H.the_field handle.the_field_send)

items-sync : IsSync I.the_row
items-sync =
    knot.sync-Items list.the_sync (as_row_sync L.the_field label.the_field_sync) (as_row_sync W.the_field power.the_field_sync) (search (sendable, as_row_sync)) held.the_sync (search (sendable, as_row_sync)) (search (sendable, as_row_sync))
    (as_row_sync T.the_field text.the_sync) (as_row_sync H.the_field handle.the_field_sync)

plain-field : IsSend (P.the_field).row
plain-field = knot.send-Plain (search sendable) (search sendable) text.the_send label.the_field_send power.the_field_send handle.the_field_send items-send

pub plain-send : IsSend P.the_row
plain-send = as_row_send P.the_field plain-field

pub plain-sync : IsSync P.the_row
plain-sync = as_row_sync P.the_field (knot.sync-Plain (search sendable) (search sendable) text.the_sync label.the_field_sync power.the_field_sync handle.the_field_sync items-sync)

pub fault-send : IsSend F.the_row
fault-send = as_row_send F.the_field (knot.send-Fault (knot.send-FaultKind label.the_field_send power.the_field_send (search sendable) plain-field) label.the_field_send)

pub content-send : IsSend C.the_row
content-send = as_row_send C.the_field (knot.send-Content plain-field held.the_send fault-send)

pub value-send : IsSend V.the_row
value-send = as_row_send V.the_field (knot.send-Value plain-field label.the_field_send held.the_send content-send)

birth-send : IsSend B.the_row
birth-send = search (sendable, crosses, value-send, list.the_send) depth 100 fits 20000

act-send : IsSend A.the_row
act-send = search (sendable, crosses, value-send, content-send, birth-send, text.the_send, held.the_send) depth 100 fits 20000

reply-send : IsSend R.the_row
reply-send = search (sendable, crosses, value-send, content-send, fault-send, held.the_send) depth 100 fits 20000

pub entry-send : IsSend E.the_row
entry-send = declared_send E.the_type (search (sendable, as_row_send), (search (sendable, as_row_send), (search (sendable, crosses, as_row_send) depth 100 fits 20000, (label.the_send, (act-send, (reply-send, tt))))))
