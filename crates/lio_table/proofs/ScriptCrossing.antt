-- Threads may share a script.
use denote.Param.Send.{IsSend, IsSync, sendable, view_sync}
use denote.Param.SendFields.{declared_sync, variants_send, variants_sync, as_row_sync}
use Rattle.std.proofs.Crossing.{crosses}
use Rattle.lio_values.proofs.list.List.TheSendSync as list
use Rattle.lio_values.proofs.name.Name.TheSendSync as name
use Rattle.lio_values.specs.contracts.list.List as M
use Rattle.lio_values.specs.contracts.name.Name as N
use Rattle.lio_cells.proofs.ValueCrossing.{plain-send, plain-sync}
use Rattle.lio_syntax_lines.proofs.operators.One.TheSendSync as one
use Rattle.lio_syntax_lines.proofs.operators.Two.TheSendSync as two
use Rattle.lio_syntax_lines.specs.contracts.line.Operand as O
use Rattle.lio_syntax_lines.specs.contracts.line.Simple as S
use Rattle.lio_syntax_lines.specs.contracts.line.Line as L
use Rattle.lio_syntax.specs.contracts.script.Kept as K
use Rattle.lio_syntax.specs.contracts.script.Script as C
use Rattle.lio_syntax.specs.contracts.script.Script.TheInside as CI
use Rattle.lio_syntax.proofs.places.Place.TheSendSync as place

operand-send : IsSend O.the_row
operand-send = variants_send O.enum ((name.the_send, tt), ((plain-send, tt), tt))

operand-sync : IsSync O.the_row
operand-sync = variants_sync O.enum ((name.the_sync, tt), ((plain-sync, tt), tt))

operands-send : IsSend (M.the_row O.the_row)
operands-send = list.the_send O.the_row operand-send

operands-sync : IsSync (M.the_row O.the_row)
operands-sync = list.the_sync O.the_row operand-sync

simple-send : IsSend S.the_row
simple-send = variants_send S.enum ((name.the_send, (operand-send, tt)), ((name.the_send, (one.the_send, (operand-send, tt))), ((name.the_send, (operand-send, (two.the_send, (operand-send, tt)))), ((name.the_send, (name.the_send, (operands-send, tt))), ((operand-send, tt), (tt, ((operand-send, tt), ((name.the_send, (operand-send, (operand-send, tt))), ((name.the_send, (operand-send, tt)), ((name.the_send, (operand-send, (operand-send, tt))), ((operand-send, tt), ((operand-send, tt), ((name.the_send, (operand-send, (operand-send, (operand-send, tt)))), ((name.the_send, (operand-send, (operand-send, tt))), ((name.the_send, (operand-send, tt)), ((name.the_send, (operand-send, (operand-send, tt))), ((name.the_send, (operand-send, tt)), ((operand-send, (operand-send, tt)), ((name.the_send, (operand-send, tt)), ((operand-send, (operand-send, tt)), ((name.the_send, (operand-send, (operand-send, (operand-send, (name.the_send, (operands-send, tt)))))), ((operand-send, (operand-send, (name.the_send, (operands-send, tt)))), ((name.the_send, (operand-send, tt)), ((operand-send, (operand-send, tt)), tt))))))))))))))))))))))))

simple-sync : IsSync S.the_row
simple-sync = variants_sync S.enum ((name.the_sync, (operand-sync, tt)), ((name.the_sync, (one.the_sync, (operand-sync, tt))), ((name.the_sync, (operand-sync, (two.the_sync, (operand-sync, tt)))), ((name.the_sync, (name.the_sync, (operands-sync, tt))), ((operand-sync, tt), (tt, ((operand-sync, tt), ((name.the_sync, (operand-sync, (operand-sync, tt))), ((name.the_sync, (operand-sync, tt)), ((name.the_sync, (operand-sync, (operand-sync, tt))), ((operand-sync, tt), ((operand-sync, tt), ((name.the_sync, (operand-sync, (operand-sync, (operand-sync, tt)))), ((name.the_sync, (operand-sync, (operand-sync, tt))), ((name.the_sync, (operand-sync, tt)), ((name.the_sync, (operand-sync, (operand-sync, tt))), ((name.the_sync, (operand-sync, tt)), ((operand-sync, (operand-sync, tt)), ((name.the_sync, (operand-sync, tt)), ((operand-sync, (operand-sync, tt)), ((name.the_sync, (operand-sync, (operand-sync, (operand-sync, (name.the_sync, (operands-sync, tt)))))), ((operand-sync, (operand-sync, (name.the_sync, (operands-sync, tt)))), ((name.the_sync, (operand-sync, tt)), ((operand-sync, (operand-sync, tt)), tt))))))))))))))))))))))))

parameters-send : IsSend (M.the_row N.the_row)
parameters-send = list.the_send N.the_row name.the_send

line-send : IsSend L.the_row
line-send = variants_send L.enum ((name.the_send, (parameters-send, tt)), ((operand-send, tt), (tt, ((operand-send, tt), (tt, ((name.the_send, (name.the_send, tt)), (tt, ((simple-send, tt), tt))))))))

parameters-sync : IsSync (M.the_row N.the_row)
parameters-sync = list.the_sync N.the_row name.the_sync

line-sync : IsSync L.the_row
line-sync = variants_sync L.enum ((name.the_sync, (parameters-sync, tt)), ((operand-sync, tt), (tt, ((operand-sync, tt), (tt, ((name.the_sync, (name.the_sync, tt)), (tt, ((simple-sync, tt), tt))))))))

kept-send : IsSend K.the_row
kept-send = search (sendable, crosses, line-send, place.the_send) depth 100 fits 20000

kept-sync : IsSync K.the_row
kept-sync = search (sendable, crosses, line-sync, place.the_sync) depth 100 fits 20000

script-inside : IsSync CI.the_row
script-inside = declared_sync CI.the_type (search (sendable, crosses, as_row_sync, kept-send, kept-sync) depth 100 fits 20000, tt)

pub script-sync : IsSync C.the_row
script-sync = view_sync _ _ _ _ _ script-inside
