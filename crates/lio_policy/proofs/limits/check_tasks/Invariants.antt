use Rattle.std.proofs.Common.{◌≡◌, ◌≤◌, take, drop, []}
use Rattle.lio_policy_draft.specs.Converted.{first_failing}
use Rattle.lio_policy.specs.Rules.{behind, task_fails, turns_in_all, cells_in_all}
use Rattle.lio_policy.proofs.limits.check_tasks.Given as goal

-- the turns and cells of the tasks so far keep to the limits, and the first task that fails is among those that are left
abbrev pub invariant-loop-place : goal.invariant-loop-place
invariant-loop-place l =
    (l.turns ≡ turns_in_all (take l.place l.tasks)) × (l.turns ≤ l.limits.turns) × (l.cells ≡ cells_in_all (take l.place l.tasks)) × (l.cells ≤ l.limits.cells)
    × (first_failing l.place (behind (task_fails l.limits l.longest l.inputs l.entries) (take l.place l.tasks) (drop l.place l.tasks)) ≡ first_failing 0 (behind (task_fails l.limits l.longest l.inputs l.entries) [] l.tasks))
