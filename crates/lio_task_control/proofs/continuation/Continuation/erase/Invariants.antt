use Rattle.std.proofs.Common.{◌≡◌, List, map, take}
use Rattle.lio_syntax_lines.specs.declared.line.Line.{Line}
use Rattle.lio_syntax.specs.Items.{Item}
use Rattle.lio_task_control.specs.Continuation.{calls_over}
use Rattle.lio_syntax.specs.Hiding.{hide_item}
use Rattle.lio_task_control.proofs.continuation.Continuation.erase.Given as goal

-- the calls so far are those that are there, erased
abbrev pub invariant-loop-call : goal.invariant-loop-call
invariant-loop-call l = (lines : List Line) (items : List Item) → calls_over lines l.calls.items (map (hide_item l.observer) items) ≡ map (hide_item l.observer) (calls_over lines (take l.call-index l.call-items) items)
