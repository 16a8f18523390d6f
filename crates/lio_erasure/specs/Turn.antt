-- The turns of the erased calculus.
use Rattle.std.specs.Prelude.{◌≡◌, ◌⊎◌, ℕ, if◌then◌else◌, Bool, true, false, List, [], Option, Some, None}
use Rattle.std.specs.Option.{option_map}
use Rattle.lio_labels.specs.declared.label.Label.{Label}
use Rattle.lio_values.specs.declared.value.Content.{Content}
use Rattle.lio_values.specs.declared.value.Handle.{Handle}
use Rattle.lio_values.specs.declared.act.Act.{Act}
use Rattle.lio_values.specs.declared.act.Reply.{Reply}
use Rattle.lio_values.specs.declared.entry.Entry.{Entry}
use Rattle.lio_values.specs.Erasure.{erase_act, erase_entry, erase_reply}
use Rattle.lio_values.specs.Purity.{IsContentPure}
use Rattle.lio_syntax.specs.Statements.{Procedure}
use Rattle.lio_cells.specs.Node.{NodeState, takes_part}
use Rattle.lio_cells.specs.Room.{room_for}
use Rattle.lio_cells.specs.State.{Kind, is_absent, ready, state_after}
use Rattle.lio_calculus.specs.Task.{TaskState}
use Rattle.lio_calculus.specs.Going.{Onward}
use Rattle.lio_calculus.specs.Hiding.{hide_task}
use Rattle.lio_calculus.specs.Plan.{Program, Own, Visit, Target, Node, New, plan}
use Rattle.lio_calculus.specs.Step.{Cell, Configuration, Move, after, can, cell_at, entry_of, met, move_of, number_of, with_cell}
use Rattle.lio_calculus.specs.Erased.{erase, low}
use Rattle.lio_calculus.specs.Sound.{IsTaskOf}
use Rattle.lio_calculus.specs.Afforded.{kind_met, makes}
use Rattle.lio_task_turns.specs.StateOf.{program_of}
use Rattle.lio_task.specs.declared.task.Task.{Task}
use Rattle.lio_task.specs.declared.config.Holder.{Holder}
use Rattle.lio_task.specs.StateOf.{state_in}
use Rattle.lio_task.specs.Next.{resumed}
use Rattle.lio_erasure.specs.declared.low.LowFault.{LowFault}
use Rattle.lio_erasure.specs.declared.low.LowFault.TheVariants.{Still, NoRelease, NoMemory}
use Rattle.lio_erasure.specs.Acts.{hides, shown_act, with_content}
use Rattle.lio_erasure.specs.Low.{job_with, low_configuration_of, low_task_in, seen_cell, seen_task}
use Rattle.lio_erasure.specs.LowParts.{LowParts, ErasedState}

-- Task k has taken a turn of the erased calculus, which shows this entry and takes the released contents from the front of those that were there.
pub record TakesTurn (old new : ErasedState) (k : ℕ) (before after : List Content) (entry : Entry) : Type 0 where
  pub turn : low old.observer 0 old.configuration k before ≡ Some (record { entry = entry; next = new.configuration; left = after })
  pub observer : new.observer ≡ old.observer

-- Task k can take a turn, but its release or exposure needs a content, and none is left.
pub record LacksRelease (observer : Label) (c : Configuration) (k : ℕ) (contents : List Content) : Type 0 where
  pub can_move : can c k ≡ true
  pub none_left : contents ≡ []
  pub no_turn : low observer 0 c k contents ≡ None

-- why a task takes no turn: it can't, it lacks a release, or no memory is left
abbrev pub Stays : ErasedState → ℕ → List Content → LowFault → Type 0
Stays state k contents (Still n) = (n ≡ k) × (can state.configuration k ≡ false)
Stays state k contents (NoRelease n) = (n ≡ k) × LacksRelease state.observer state.configuration k contents
Stays state k contents NoMemory = Unit {0}

-- the node of a holder, where it is there
abbrev pub node_of_holder : Option Holder → Option NodeState
node_of_holder holder = option_map (λ (there : Holder). there.node) holder

-- A node is there, has room for an act, and takes part in it.
pub record CanServe (holder : Option Holder) (asked : Act) : Type 0 where
  pub node : NodeState
  pub is : node_of_holder holder ≡ Some node
  pub room : node.room ≡ room_for node.state asked
  pub part : takes_part node.state asked ≡ true

-- a node that is there has room for an act
abbrev pub HasRoom : Option Holder → Act → Type 0
HasRoom holder asked = (node : NodeState) → node_of_holder holder ≡ Some node → node.room ≡ room_for node.state asked

-- a cell whose node has served an act
abbrev pub serving : Act → Cell → Cell
serving asked cell = record { state = state_after cell.state asked; task = cell.task }

-- the configuration in which the node with a number has served an act
abbrev pub served : Configuration → ℕ → Act → Configuration
served c n asked = with_cell c n (serving asked (cell_at c n))

abbrev pub Serves : List Procedure → ℕ → List (Option Holder) → List (Option Holder) → ℕ → Act → Type 0
Serves script longest old new n asked = low_configuration_of script longest new ≡ served (low_configuration_of script longest old) n asked

-- the configuration in which a cell was put under a number, if nothing was there
abbrev pub placed : Configuration → ℕ → Cell → Configuration
placed c n cell = if is_absent (cell_at c n).state then with_cell c n cell else c

abbrev pub Places : List Procedure → ℕ → List (Option Holder) → List (Option Holder) → ℕ → Cell → Type 0
Places script longest old new n cell = low_configuration_of script longest new ≡ placed (low_configuration_of script longest old) n cell

-- the configuration in which the task with a number has gone on to a state
abbrev pub advanced : Configuration → ℕ → TaskState → Configuration
advanced c k task = with_cell c k (record { state = (cell_at c k).state; task = Some task })

-- The task of a cell goes on by an act and a reply. It stays as the observer sees it, unless the act hides a value.
pub record CanGoOn (observer : Label) (program : Program) (cell : Cell) (asked : Act) (reply : Reply) : Type 0 where
  pub task : TaskState
  pub is : cell.task ≡ Some task
  pub stays : hides observer asked ≡ false → hide_task observer (resumed program task asked reply) ≡ resumed program task asked reply

-- the task of a cell has gone on, and is as the observer sees it
abbrev pub HasGoneOn : Label → Program → Cell → Cell → Act → Reply → Type 0
HasGoneOn observer program old new asked reply =
    (task : TaskState) → old.task ≡ Some task → new ≡ record { state = old.state; task = Some (hide_task observer (resumed program task asked reply)) }

-- the task with a number goes on
abbrev pub CanAdvance : Label → Configuration → ℕ → Act → Reply → Type 0
CanAdvance observer c k asked reply = CanGoOn observer c.program (cell_at c k) asked reply

-- the task with a number has gone on
abbrev pub Advances : Label → Configuration → Configuration → ℕ → Act → Reply → Type 0
Advances observer old new k asked reply = (task : TaskState) → IsTaskOf old k task → new ≡ advanced old k (hide_task observer (resumed old.program task asked reply))

-- the cell with a number is left out where the observer doesn't see it
abbrev pub settled : Label → Configuration → ℕ → Configuration
settled observer c k = with_cell c k (seen_cell observer (cell_at c k))

abbrev pub Settles : Label → List Procedure → ℕ → List (Option Holder) → List (Option Holder) → ℕ → Type 0
Settles observer script longest old new k = low_configuration_of script longest new ≡ settled observer (low_configuration_of script longest old) k

-- after what a turn made of a configuration the task with a number has gone on, or is left out
abbrev pub Follows : Label → Configuration → Configuration → Configuration → ℕ → Act → Reply → Type 0
Follows observer old between new k asked reply =
    (task : TaskState) → IsTaskOf old k task → new ≡ with_cell between k (job_with (cell_at between k).state (seen_task observer (resumed old.program task asked reply)))

-- The observer sees the values of an act and of its reply, but for a content that the act releases or exposes.
pub record IsAsSeen (observer : Label) (asked : Act) (reply : Reply) : Type 0 where
  pub act_is : erase_act observer asked ≡ shown_act observer asked
  pub reply_is : erase_reply observer reply ≡ reply

-- a turn of a task shows this entry to the observer
abbrev pub IsShown : LowParts → ℕ → Option ℕ → Act → Reply → Entry → Type 0
IsShown parts k target asked reply shown =
    (task : Task) → low_task_in parts.holders k ≡ Some task → shown ≡ erase_entry parts.observer (record { ticket = 0; actor = k; target = target; at = task.label; act = asked; reply = reply })

-- an act is the one that was planned, but maybe for the content that it releases or exposes, which is pure
abbrev pub IsTold : Act → Act → Type 0
IsTold planned asked = (asked ≡ planned) ⊎ ((content : Content) × IsContentPure content × (asked ≡ with_content planned content))

-- Task k plans an act of its own, with this reply, which is this act but maybe for the content that it releases or exposes.
pub record PlansOwn (parts : LowParts) (k : ℕ) (asked : Act) (reply : Reply) : Type 0 where
  pub task : Task
  pub is : low_task_in parts.holders k ≡ Some task
  pub planned : Act
  pub onward : Onward
  pub plans : plan (program_of parts.script parts.longest) (state_in parts.script task) ≡ Own planned reply onward
  pub told : IsTold planned asked

-- Task k plans this act of its own, with this reply.
pub record PlansAct (parts : LowParts) (k : ℕ) (asked : Act) (reply : Reply) : Type 0 where
  pub task : Task
  pub is : low_task_in parts.holders k ≡ Some task
  pub onward : Onward
  pub plans : plan (program_of parts.script parts.longest) (state_in parts.script task) ≡ Own asked reply onward

-- Task k plans an act that meets the node with this number.
pub record PlansVisit (parts : LowParts) (k : ℕ) (asked : Act) (n : ℕ) : Type 0 where
  pub task : Task
  pub is : low_task_in parts.holders k ≡ Some task
  pub target : Target
  pub onward : Onward
  pub plans : plan (program_of parts.script parts.longest) (state_in parts.script task) ≡ Visit asked target onward
  pub number : number_of target ≡ n

-- By a handle, task k visits the node with this number; whether that node is ready for the act is told.
pub record VisitsNode (parts : LowParts) (k : ℕ) (asked : Act) (n : ℕ) (is_it : Bool) : Type 0 where
  pub visits : PlansVisit parts k asked n
  pub kind : Kind
  pub handle : Handle
  pub kind_is : kind_met asked ≡ Some kind
  pub target : visits.target ≡ Node kind handle
  pub readiness : ready (met (Node kind handle) (cell_at (low_configuration_of parts.script parts.longest parts.holders) n).state) asked ≡ is_it

-- Task k makes a node with this number, the first of its range.
pub record VisitsNew (parts : LowParts) (k : ℕ) (asked : Act) (n : ℕ) : Type 0 where
  pub visits : PlansVisit parts k asked n
  pub target : visits.target ≡ New n
  pub makes_node : makes asked ≡ true

-- Task k has made its move, with this act in the place of its own: the observer sees this entry, and the configuration after it.
pub record Moves (old new : ErasedState) (k : ℕ) (asked : Act) (entry : Entry) : Type 0 where
  pub task : TaskState
  pub is : IsTaskOf old.configuration k task
  pub move : Move
  pub moves : move_of (cell_at old.configuration) (plan old.configuration.program task) ≡ Some move
  pub entry_is : entry ≡ erase_entry old.observer (entry_of 0 k task (record move { act = asked }))
  pub next : new.configuration ≡ erase old.observer (after old.configuration k task (record move { act = asked }))
  pub observer : new.observer ≡ old.observer
