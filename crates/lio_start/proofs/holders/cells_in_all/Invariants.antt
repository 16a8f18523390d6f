use Rattle.std.proofs.Common.{◌≡◌, ◌+◌, drop}
use Rattle.lio_start.specs.Start.{cells_in_all}
use Rattle.lio_start.proofs.holders.cells_in_all.Given as goal

-- the numbers so far, with those of the tasks that are left
abbrev pub invariant-loop-task : goal.invariant-loop-task
invariant-loop-task l = l.cells + cells_in_all (drop l.task-index l.tasks) ≡ cells_in_all l.tasks
