-- What a turn makes of each cell: it is told by the entry that the turn shows, the cell and its number alone.
use Rattle.std.specs.Prelude.{◌≡◌, ℕ, ◌==◌, Bool, false, ◌||◌, if◌then◌else◌, Option, Some, option_and_then}
use Rattle.std.specs.Option.{option_map, option_map_or}
use Rattle.lio_values.specs.declared.act.Act.{Act}
use Rattle.lio_values.specs.declared.act.Reply.{Reply}
use Rattle.lio_values.specs.declared.entry.Entry.{Entry}
use Rattle.lio_cells.specs.State.{state_after}
use Rattle.lio_calculus.specs.Task.{TaskState}
use Rattle.lio_calculus.specs.Going.{gone_on}
use Rattle.lio_calculus.specs.Plan.{Program, Plan, Over, Own, Visit, plan}
use Rattle.lio_calculus.specs.Step.{Cell, Configuration, Turn, cell_at, entry_of, met_after, move_of, step}
use Rattle.lio_calculus.specs.Sound.{IsSound}

-- a task after the turn of a plan, with the turn's act and reply
abbrev pub resumed_by : TaskState → Act → Reply → Plan → TaskState
resumed_by task asked reply Over = task
resumed_by task asked reply (Own act answer onward) = gone_on task onward asked reply
resumed_by task asked reply (Visit act target onward) = gone_on task onward asked reply

-- a task after its next turn, with the turn's act and reply
abbrev pub resumed : Program → TaskState → Act → Reply → TaskState
resumed program task asked reply = resumed_by task asked reply (plan program task)

-- whether an entry shows a node as its target
abbrev pub is_target : ℕ → Entry → Bool
is_target n entry = option_map_or (λ m. m == n) entry.target false

-- whether an entry shows a node, as its actor or as its target
abbrev pub touches : ℕ → Entry → Bool
touches n entry = (entry.actor == n) || is_target n entry

-- the actor's cell after the turn that an entry shows
abbrev pub acted : Program → Entry → Cell → Cell
acted program entry cell = record { state = state_after cell.state entry.act; task = option_map (λ task. resumed program task entry.act entry.reply) cell.task }

-- the target's cell after it
abbrev pub served : Program → Entry → Cell → Cell
served program entry cell = met_after program entry.at entry.act cell

-- the cell with a number that the entry shows, after it
abbrev pub applied : Program → ℕ → Entry → Cell → Cell
applied program n entry cell = if entry.actor == n then acted program entry cell else served program entry cell

-- the cell with any number after it
unfoldable pub entered : Program → ℕ → Entry → Cell → Cell
entered program n entry cell = if touches n entry then applied program n entry cell else cell

-- the entry of task k's turn, over the cells by number; none where it can't take one
unfoldable pub entry_in : Program → (ℕ → Cell) → ℕ → ℕ → Option Entry
entry_in program look ticket k = option_and_then (λ task. option_map (entry_of ticket k task) (move_of look (plan program task))) (look k).task

-- after a step of a sound configuration each cell is what the entry makes of it
abbrev pub StepIsItsEntry : Type 0
StepIsItsEntry = (ticket : ℕ) (c : Configuration) (k : ℕ) (turn : Turn) → IsSound c → step ticket c k ≡ Some turn
    → (n : ℕ) → cell_at turn.next n ≡ entered c.program n turn.entry (cell_at c n)
