-- The rounds of a configuration, the measure that each turn lowers, and when a configuration is complete.
use Rattle.std.specs.Prelude.{◌≡◌, ℕ, ◌+◌, ◌*◌, false, List, [], ◌∷◌, Option, Some, None, is_some, if◌then◌else◌, sum_by}
use Rattle.std.specs.Option.{option_map}
use Rattle.lio_calculus.specs.Task.{TaskState}
use Rattle.lio_calculus.specs.Step.{Cell, Configuration, Turn, step, can}
use Rattle.lio_calculus_runs.specs.Round.{Taken, rounds_within}

-- no task can take a turn
abbrev pub IsComplete : Configuration → Type 0
IsComplete c = (k : ℕ) → can c k ≡ false

-- twice the turns that a task has left, and one where it hasn't ended
abbrev pub weight : Option TaskState → ℕ
weight None = 0
weight (Some task) = 2 * task.turns + (if task.ended then 0 else 1)

-- the measure of a configuration: twice the turns that are left in all, and the number of tasks that haven't ended
abbrev pub measure : Configuration → ℕ
measure c = sum_by (λ cell. weight cell.task) c.cells

-- the numbers of the cells that have a task, from a first number
unfoldable pub tasks_from : ℕ → List Cell → List ℕ
tasks_from first [] = []
tasks_from first (cell ∷ cells) = if is_some cell.task then first ∷ tasks_from (first + 1) cells else tasks_from (first + 1) cells

-- the tasks of a configuration, by number
abbrev pub tasks : Configuration → List ℕ
tasks c = tasks_from 0 c.cells

-- a turn as rounds see it; who moves doesn't depend on the ticket
abbrev pub taken : Turn → Taken Configuration
taken turn = record { entry = turn.entry; next = turn.next }

abbrev pub stepped : Configuration → ℕ → Option (Taken Configuration)
stepped c k = option_map taken (step 0 c k)

-- who takes the turns, in order, in rounds from an order until one moves nothing; the measure bounds their number
abbrev pub rounds_from : List ℕ → Configuration → List ℕ
rounds_from order c = rounds_within stepped (measure c) order c

-- the rounds of a configuration: over its tasks by number, and who is born later
abbrev pub rounds : Configuration → List ℕ
rounds c = rounds_from (tasks c) c
