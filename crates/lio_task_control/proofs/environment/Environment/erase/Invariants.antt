use Rattle.std.proofs.Common.{◌≡◌, take}
use Rattle.lio_syntax.specs.Hiding.{hide_environment}
use Rattle.lio_task_control.proofs.environment.Environment.erase.Given as goal

-- the bindings so far are those that are there, erased
abbrev pub invariant-loop-binding : goal.invariant-loop-binding
invariant-loop-binding l = l.bindings.items ≡ hide_environment l.observer (take l.binding-index l.binding-items)
