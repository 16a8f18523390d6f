use Rattle.std.proofs.Common.{◌≡◌, take}
use Rattle.lio_task_control.proofs.environment.Environment.copy.Given as goal

-- the bindings so far are copied
abbrev pub invariant-loop-binding : goal.invariant-loop-binding
invariant-loop-binding l = l.bindings.items ≡ take l.binding-index l.binding-items
