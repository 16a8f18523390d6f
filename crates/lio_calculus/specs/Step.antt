-- Configurations, and the small step of one task (the concurrent calculus of LIO, ICFP 2012). A step is a move and its effect: the move looks at
-- the actor's cell and at most at its target's, and the effect changes these two alone.
use Rattle.std.specs.Prelude.{ℕ, Bool, true, false, ◌&&◌, not, List, [], Option, Some, None, is_some, slice_set, slice_index_or, if◌then◌else◌, option_and_then, slice_get}
use Rattle.std.specs.Option.{option_map, option_map_or}
use Rattle.lio_labels.specs.declared.label.Label.{Label}
use Rattle.lio_labels.specs.Equality.{same_label}
use Rattle.lio_values.specs.declared.value.Handle.{Handle}
use Rattle.lio_values.specs.declared.act.Act.{Act}
use Rattle.lio_values.specs.declared.act.Act.TheVariants as act
use Rattle.lio_values.specs.declared.act.Birth.{Birth}
use Rattle.lio_values.specs.declared.act.Reply.{Reply}
use Rattle.lio_values.specs.declared.entry.Entry.{Entry}
use Rattle.lio_syntax.specs.Statements.{Statements, Nothing, Procedure}
use Rattle.lio_cells.specs.declared.state.State.{State}
use Rattle.lio_cells.specs.declared.state.State.TheVariants.{Absent}
use Rattle.lio_cells.specs.State.{Kind, is_absent, is_of, label_of, ready, answer, state_after}
use Rattle.lio_syntax.specs.Environment.{bind_all}
use Rattle.lio_calculus.specs.Task.{TaskState}
use Rattle.lio_syntax.specs.Items.{enter}
use Rattle.lio_calculus.specs.Going.{Onward, gone_on}
use Rattle.lio_calculus.specs.Plan.{Program, Plan, Over, Own, Visit, Target, Node, New, plan}

-- a cell: a node's state and, where the node is a job, its task
pub record Cell : Type 0 where
  pub state : State
  pub task : Option TaskState

-- a configuration: the program that its tasks run, and its cells by number
pub record Configuration : Type 0 where
  pub program : Program
  pub cells : List Cell

-- a cell that holds nothing
abbrev pub blank : Cell
blank = record { state = Absent; task = None }

-- the cell with a number; beyond the list nothing is held
abbrev pub cell_at : Configuration → ℕ → Cell
cell_at c k = slice_index_or c.cells k blank

-- the configuration with another cell under a number
abbrev pub with_cell : Configuration → ℕ → Cell → Configuration
with_cell c k cell = record c { cells = slice_set c.cells k cell }

-- the number of the node that a turn meets
abbrev pub number_of : Target → ℕ
number_of (Node kind handle) = handle.number
number_of (New number) = number

-- whether a cell has a label
abbrev pub has_label : State → Label → Bool
has_label state label = option_map_or (λ l. same_label l label) (label_of state) false

-- whether a cell is the one that a handle names: of its kind, and with its label
abbrev pub is_named : Kind → Handle → State → Bool
is_named kind handle state = is_of kind state && has_label state handle.label

-- whether a cell is the one that a turn is to meet: a new node is placed only where nothing is
abbrev pub is_met : Target → State → Bool
is_met (Node kind handle) state = is_named kind handle state
is_met (New number) state = is_absent state

-- the state that a turn meets: a cell that isn't the one that the turn is to meet counts as absent
abbrev pub met : Target → State → State
met target state = if is_met target state then state else Absent

-- an access waits until its node is ready; a write, a send or a birth never waits
abbrev pub waits : Act → Bool
waits act.Read = true
waits act.Take = true
waits (act.Put value) = true
waits act.Wait = true
waits act = false

-- what a task does next, where it can: the act, the node that it meets, the reply, and how the task goes on
pub record Move : Type 0 where
  pub act : Act
  pub target : Option Target
  pub reply : Reply
  pub onward : Onward

-- a visit of a node in this state
abbrev pub visit : Act → Target → Onward → State → Option Move
visit act target onward state =
    if waits act && not (ready state act) then None
    else Some (record { act = act; target = Some target; reply = answer state act; onward = onward })

-- the move of a plan, over the cells by number
abbrev pub move_of : (ℕ → Cell) → Plan → Option Move
move_of look Over = None
move_of look (Own act reply onward) = Some (record { act = act; target = None; reply = reply; onward = onward })
move_of look (Visit act target onward) = visit act target onward (met target (look (number_of target)).state)

-- the body of a procedure
abbrev pub body_of : Option Procedure → Statements
body_of None = Nothing
body_of (Some procedure) = procedure.body

-- the names of its parameters
abbrev pub parameters_of : Option Procedure → List (List ℕ)
parameters_of None = []
parameters_of (Some procedure) = procedure.parameters

-- a child as it is born, at its parent's label
unfoldable pub child_of : Program → Label → Birth → TaskState
child_of program label birth =
    let procedure : Option Procedure = slice_get program.procedures birth.proc_at
    in record {
      environment = bind_all [] (parameters_of procedure) birth.args;
      items = enter (body_of procedure) [];
      label = label;
      clearance = birth.clearance;
      turns = birth.turns;
      first = birth.first;
      cells = birth.cells;
      ended = false;
    }

-- the task that an act gives birth to, if it does
abbrev pub born : Program → Label → Act → Option TaskState
born program label (act.Fork birth) = Some (child_of program label birth)
born program label (act.Spawn birth) = Some (child_of program label birth)
born program label act = None

-- the task of a cell after an act that met it: a child, where the act gave birth to one
abbrev pub task_after : Option TaskState → Option TaskState → Option TaskState
task_after None child = child
task_after (Some task) child = Some task

-- the cell that an act met, after it
abbrev pub met_after : Program → Label → Act → Cell → Cell
met_after program label act cell = record { state = state_after cell.state act; task = task_after cell.task (born program label act) }

-- the actor's cell after its move: its task goes on, and where it ended its job has the result
abbrev pub actor_after : TaskState → Move → Cell → Cell
actor_after task move cell = record { state = state_after cell.state move.act; task = Some (gone_on task move.onward move.act move.reply) }

-- the configuration after the target of an act has met it; a cell that isn't the one that the turn is to meet stays as it is
abbrev pub target_after : Configuration → Label → Act → Option Target → Configuration
target_after c label act None = c
target_after c label act (Some target) =
    let n : ℕ = number_of target
    in if is_met target (cell_at c n).state then with_cell c n (met_after c.program label act (cell_at c n)) else c

-- the configuration after a task's move
abbrev pub after : Configuration → ℕ → TaskState → Move → Configuration
after c k task move =
    let met : Configuration = target_after c task.label move.act move.target
    in with_cell met k (actor_after task move (cell_at met k))

-- a turn: what its entry shows beside its ticket, and the configuration after it
pub record Turn : Type 0 where
  pub entry : Entry
  pub next : Configuration

-- what a journal keeps of a move
abbrev pub entry_of : ℕ → ℕ → TaskState → Move → Entry
entry_of ticket k task move = record { ticket = ticket; actor = k; target = option_map number_of move.target; at = task.label; act = move.act; reply = move.reply }

-- the turn of a task with a ticket
abbrev pub turn_of : ℕ → Configuration → ℕ → TaskState → Option Turn
turn_of ticket c k task =
    option_map (λ move. record { entry = entry_of ticket k task move; next = after c k task move }) (move_of (cell_at c) (plan c.program task))

-- one small step of task k, with a ticket; none where it can't take one (LIO, ICFP 2012)
unfoldable pub step : ℕ → Configuration → ℕ → Option Turn
step ticket c k = option_and_then (turn_of ticket c k) (cell_at c k).task

-- whether task k can take a turn
abbrev pub can : Configuration → ℕ → Bool
can c k = is_some (step 0 c k)
