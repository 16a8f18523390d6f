use Rattle.std.proofs.Common.{◌≡◌, take}
use Rattle.std.specs.List.{flat_map}
use Rattle.lio_clauses.specs.Without.{without}
use Rattle.lio_policy.specs.Powers.{task_powers}
use Rattle.lio_policy.specs.Flows.{clauses_of}
use Rattle.lio_policy.proofs.flows.beyond_tasks.Given as goal

-- those beyond the tasks so far
abbrev pub invariant-loop-task : goal.invariant-loop-task
invariant-loop-task l = l.left ≡ without l.formula (clauses_of (flat_map task_powers (take l.task-index l.tasks)))
