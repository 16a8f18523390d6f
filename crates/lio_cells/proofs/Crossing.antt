-- A node may go to another thread.
use denote.Param.Send.{IsSend, sendable, view_send}
use denote.Param.SendFields.{declared_send, variants_send, as_row_send}
use Rattle.std.proofs.Crossing.{crosses, Arc-send, Arc-sync}
use Rattle.lio_labels.proofs.label.Label.TheSendSync as label
use Rattle.lio_values.proofs.text.Text.TheSendSync as text
use Rattle.lio_cells.proofs.ValueCrossing.{content-send, value-send, entry-send}
use Rattle.lio_cells.proofs.bytes.Pieces.TheLaws.TheKnot as pieces
use Rattle.lio_cells.proofs.waiter.Waiters.TheSendSync as waiters
use Rattle.lio_cells.specs.contracts.bytes.Pieces as P
use Rattle.lio_cells.specs.contracts.bytes.Bytes as B
use Rattle.lio_cells.specs.contracts.bytes.Bytes.TheInside as BI
use Rattle.lio_cells.specs.contracts.state.State as S
use Rattle.lio_cells.specs.contracts.room.Room as R
use Rattle.lio_cells.specs.contracts.log.Log as L
use Rattle.lio_cells.specs.contracts.log.Log.TheInside as LI
use Rattle.lio_cells.specs.contracts.waiter.Waiters as W
use Rattle.lio_cells.specs.contracts.node.Node as N
use Rattle.lio_cells.specs.contracts.node.Node.TheInside as NI

bytes-inside : IsSend BI.the_row
bytes-inside = declared_send BI.the_type (as_row_send P.the_field (pieces.both_send-Pieces Arc-send Arc-sync text.the_send text.the_sync), tt)

bytes-send : IsSend B.the_row
bytes-send = view_send _ _ _ _ _ bytes-inside

state-send : IsSend S.the_row
state-send = variants_send S.enum (
  tt,
  (
    (label.the_send, (value-send, tt)),
    (
      (label.the_send, (search (sendable, crosses, as_row_send, value-send) depth 100 fits 20000, tt)),
      (
        (label.the_send, (bytes-send, tt)),
        (
          (label.the_send, (search (sendable, crosses, as_row_send, content-send) depth 100 fits 20000, tt)),
          tt,
        ),
      ),
    ),
  ),
)

room-send : IsSend R.the_row
room-send = variants_send R.enum (tt, (tt, ((value-send, tt), ((as_row_send B.the_field bytes-send, tt), ((state-send, tt), ((content-send, tt), tt))))))

log-inside : IsSend LI.the_row
log-inside = declared_send LI.the_type (search (sendable, crosses, as_row_send, state-send) depth 100 fits 20000, (search (sendable, crosses, as_row_send, entry-send) depth 100 fits 20000, (search (sendable, as_row_send), tt)))

log-send : IsSend L.the_row
log-send = view_send _ _ _ _ _ log-inside

node-inside : IsSend NI.the_row
node-inside = declared_send NI.the_type (state-send, (room-send, (as_row_send L.the_field log-send, (as_row_send W.the_field waiters.the_send, tt))))

pub node-send : IsSend N.the_row
node-send = view_send _ _ _ _ _ node-inside
