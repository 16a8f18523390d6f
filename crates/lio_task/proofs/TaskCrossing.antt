-- A task may go to another thread.
use denote.Param.Send.{IsSend, sendable, view_send}
use denote.Param.SendFields.{declared_send, variants_send, as_row_send}
use Rattle.std.proofs.Crossing.{crosses}
use Rattle.lio_labels.proofs.label.Label.TheSendSync as label
use Rattle.lio_values.proofs.held.Held.TheSendSync as held
use Rattle.lio_values.proofs.name.Name.TheSendSync as name
use Rattle.lio_values.specs.contracts.fault.Fault as F
use Rattle.lio_values.specs.contracts.held.Held as H
use Rattle.lio_cells.proofs.ValueCrossing.{value-send, fault-send}
use Rattle.lio_syntax.specs.contracts.binding.Binding as B
use Rattle.lio_task_control.specs.contracts.environment.Environment as E
use Rattle.lio_task_control.specs.contracts.environment.Environment.TheInside as EI
use Rattle.lio_task_control.specs.contracts.frame.Stage as S
use Rattle.lio_task_control.specs.contracts.frame.Frame as R
use Rattle.lio_task_control.specs.contracts.frame.Call as C
use Rattle.lio_task_control.specs.contracts.stood.Stood as O
use Rattle.lio_task_control.specs.contracts.continuation.Continuation as K
use Rattle.lio_task.specs.contracts.task.Task as T

binding-send : IsSend B.the_row
binding-send = declared_send B.the_type (name.the_send, (value-send, tt))

environment-inside : IsSend EI.the_row
environment-inside = declared_send EI.the_type (search (sendable, crosses, as_row_send, binding-send) depth 100 fits 20000, tt)

environment-send : IsSend E.the_row
environment-send = view_send _ _ _ _ _ environment-inside

held-fault : IsSend (H.the_row F.the_row)
held-fault = held.the_send F.the_row fault-send

stage-send : IsSend S.the_row
stage-send = variants_send S.enum (tt, (tt, (tt, ((search (sendable, crosses, held-fault) depth 100 fits 20000, tt), tt))))

frame-send : IsSend R.the_row
frame-send = declared_send R.the_type (environment-send, (search (sendable, as_row_send), (stage-send, tt)))

call-send : IsSend C.the_row
call-send = declared_send C.the_type (frame-send, (name.the_send, tt))

stood-send : IsSend O.the_row
stood-send = declared_send O.the_type (frame-send, (fault-send, tt))

held-stood : IsSend (H.the_row O.the_row)
held-stood = held.the_send O.the_row stood-send

continuation-send : IsSend K.the_row
continuation-send = declared_send K.the_type (search (sendable, crosses, as_row_send, call-send) depth 100 fits 20000, (frame-send, (search (sendable, crosses, as_row_send, held-stood) depth 100 fits 20000, tt)))

pub task-send : IsSend T.the_row
task-send = declared_send T.the_type (
  continuation-send,
  (
    label.the_send,
    (
      label.the_send,
      (search (sendable, as_row_send), (search (sendable, as_row_send), (search (sendable, as_row_send), (search (sendable, as_row_send), (search (sendable, crosses, as_row_send) depth 100 fits 20000, tt))))),
    ),
  ),
)
