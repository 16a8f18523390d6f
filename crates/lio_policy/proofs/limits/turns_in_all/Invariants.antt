use Rattle.std.proofs.Common.{◌≡◌, ◌≤◌, ◌*◌, take}
use Rattle.lio_policy.specs.Rules.{turns_in_all}
use Rattle.lio_policy.proofs.limits.turns_in_all.Given as goal

-- the turns of the tasks so far, each of which has less than 2 ^ 32
abbrev pub invariant-loop-task : goal.invariant-loop-task
invariant-loop-task l = (l.turns ≡ turns_in_all (take l.task-index l.tasks)) × (l.turns ≤ l.task-index * 4294967295)
