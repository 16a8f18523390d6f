use Rattle.std.proofs.Common.{◌≡◌, drop}
use Rattle.lio_start.specs.Fits.{first_fault, fits}
use Rattle.lio_start.proofs.fitting.first_fault.Given as goal

-- the first fault is that of the tasks that are left
abbrev pub invariant-loop-task : goal.invariant-loop-task
invariant-loop-task l = (l.place ≡ l.task-index) × (first_fault l.script l.place (drop l.task-index l.tasks) ≡ fits l.tasks l.script)
