use Rattle.std.proofs.Common.{◌≡◌, List, take}
use Rattle.lio_syntax_lines.specs.declared.line.Line.{Line}
use Rattle.lio_syntax.specs.Items.{Item}
use Rattle.lio_task_control.specs.Continuation.{calls_over}
use Rattle.lio_task_control.proofs.continuation.Continuation.copy.Given as goal

-- the calls so far are copied
abbrev pub invariant-loop-call : goal.invariant-loop-call
invariant-loop-call l = (lines : List Line) (items : List Item) → calls_over lines l.calls.items items ≡ calls_over lines (take l.call-index l.call-items) items
