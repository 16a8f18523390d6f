-- Words for the contracts of a turn in two halves, over the holders that it is lent: the actor's, and that of the node that its act meets.
-- The first half does all that may fail, the second records the act in the nodes.
use Rattle.std.specs.Prelude.{◌≡◌, ℕ, ◌<◌, List, [], ◌∷◌, ◌++◌, All, Option, Some, None, IsTrue, Bool, true, false, if◌then◌else◌}
use Rattle.std.specs.Option.{option_map}
use Rattle.lio_labels.specs.declared.label.Label.{Label}
use Rattle.lio_values.specs.declared.act.Act.{Act}
use Rattle.lio_values.specs.declared.act.Act.TheVariants as act
use Rattle.lio_values.specs.declared.act.Reply.{Reply}
use Rattle.lio_values.specs.declared.entry.Entry.{Entry}
use Rattle.lio_syntax.specs.Statements.{Procedure}
use Rattle.lio_syntax.specs.Lines.{script_lines}
use Rattle.lio_cells.specs.declared.state.State.{State}
use Rattle.lio_cells.specs.declared.waiter.Waiter.{Waiter}
use Rattle.lio_cells.specs.Node.{IsReadyFor, NodeState, takes_part}
use Rattle.lio_cells.specs.State.{is_job, state_after}
use Rattle.lio_calculus.specs.Task.{TaskState}
use Rattle.lio_calculus.specs.Going.{gone_on}
use Rattle.lio_calculus.specs.Step.{Cell, Configuration, born, cell_at, task_after}
use Rattle.lio_calculus.specs.Sound.{IsSound}
use Rattle.lio_calculus.specs.Effect.{acted, entry_in}
use Rattle.lio_task_turns.specs.declared.turn.Onward.{Onward}
use Rattle.lio_task_turns.specs.StateOf.{program_of}
use Rattle.lio_task.specs.declared.config.Holder.{Holder}
use Rattle.lio_task.specs.declared.go.Way.{Way}
use Rattle.lio_task.specs.declared.go.Way.TheVariants as way
use Rattle.lio_task.specs.declared.task.Task.{Task}
use Rattle.lio_task.specs.Births.{CanBear}
use Rattle.lio_task.specs.Goes.{CanGo, way_of}
use Rattle.lio_task.specs.StateOf.{state_in}
use Rattle.lio_task.specs.Configuration.{cell_of}
use Rattle.lio_task.specs.Takes.{PlansOwn, PlansVisit}

-- a sound configuration in which a holder stands under a number
pub record Stands (script : List Procedure) (longest : ℕ) (c : Configuration) (k : ℕ) (holder : Holder) : Type 0 where
  pub program : c.program ≡ program_of script longest
  pub sound : IsSound c
  pub at : cell_at c k ≡ cell_of script holder

-- a holder's task is there
pub record HasTask (holder : Holder) : Type 0 where
  pub task : Task
  pub is : holder.task ≡ Some task

-- the label of a holder's task
abbrev pub IsLabelOf : Holder → Label → Type 0
IsLabelOf holder label = (task : Task) → holder.task ≡ Some task → label ≡ task.label

-- a holder's task is there, and can go on in this way
pub record CanTurn (script : List Procedure) (holder : Holder) (way : Way) : Type 0 where
  pub task : Task
  pub is : holder.task ≡ Some task
  pub can_go : CanGo script task way

-- a holder's task is there, can go on after a turn that meets another node, and the act gives birth to a task that can be born, if to one
pub record CanMeet (script : List Procedure) (holder : Holder) (asked : Act) (onward : Onward) : Type 0 where
  pub turns : CanTurn script holder (way.On onward)
  pub bears : CanBear script turns.task.label asked

-- a holder's task is there, and an act of its gives birth to a task that can be born, if to one
pub record Bears (script : List Procedure) (holder : Holder) (asked : Act) : Type 0 where
  pub task : Task
  pub is : holder.task ≡ Some task
  pub bears : CanBear script task.label asked

-- the child that an act of a holder's task gives birth to, if it does
abbrev pub IsChild : List Procedure → Holder → Act → Option Task → Type 0
IsChild script holder asked child =
    (task : Task) → holder.task ≡ Some task → (longest : ℕ) → option_map (state_in script) child ≡ born (program_of script longest) task.label asked

-- the cell of a task that has gone on
abbrev pub gone_cell : State → TaskState → Cell
gone_cell state task = record { state = state; task = Some task }

-- a holder's task has gone on in a way, and its node is as before
abbrev pub Gone : List Procedure → Holder → Holder → Way → Act → Reply → Type 0
Gone script old new way asked reply =
    (task : Task) → old.task ≡ Some task
    → cell_of script new ≡ gone_cell old.node.state (gone_on (state_in script task) (way_of (script_lines script) (state_in script task).items way) asked reply)

-- whether an act is the end of its task
abbrev pub ends : Act → Bool
ends (act.Ended content) = true
ends asked = false

-- whether an act only looks at the node that it meets
abbrev pub looks : Act → Bool
looks act.Read = true
looks act.Wait = true
looks asked = false

-- An entry is that of a turn of a holder's task, which has number k: all of it but its ticket.
pub record IsFilled (holder : Holder) (k : ℕ) (met : Option ℕ) (asked : Act) (replied : Reply) (entry : Entry) : Type 0 where
  pub actor : entry.actor ≡ k
  pub target : entry.target ≡ met
  pub at : IsLabelOf holder entry.at
  pub act : entry.act ≡ asked
  pub reply : entry.reply ≡ replied

-- a node whose waiters are taken out, where an act changes it
abbrev pub woken : Bool → NodeState → NodeState
woken changes node = if changes then record node { waiters = [] } else node

-- a node's log after a turn with this ticket
abbrev pub with_turn : List Entry → Entry → ℕ → List Entry
with_turn log entry ticket = log ++ record entry { ticket = ticket } ∷ []

-- a holder stands for the same cell as before, its node has the same log, and the same tasks wait at it
pub record IsAsBefore (script : List Procedure) (old new : Holder) : Type 0 where
  pub cell : cell_of script new ≡ cell_of script old
  pub log : new.node.log ≡ old.node.log
  pub waiters : new.node.waiters ≡ old.node.waiters

-- A holder's task has gone on in a way, and its node, which else is as before, is ready for the turn's entry.
pub record HasPrepared (script : List Procedure) (old new : Holder) (way : Way) (entry : Entry) : Type 0 where
  pub gone : Gone script old new way entry.act entry.reply
  pub state : new.node.state ≡ old.node.state
  pub log : new.node.log ≡ old.node.log
  pub waiters : new.node.waiters ≡ old.node.waiters
  pub is_ready : IsReadyFor new.node entry

-- All that may fail of the turn of task k is done: what its holder was before and is now, and the number of the node that the turn meets, if it
-- meets one. `holds` says what else has to hold of a configuration.
pub record Prepared (script : List Procedure) (longest : ℕ) (holds : Configuration → Type 0) (old new : Holder) (k : ℕ) (target : Option ℕ) (entry : Entry) : Type 0 where
  -- the entry is that of the turn, but for its ticket, in each sound configuration in which the holder stood
  pub shown : (c : Configuration) → Stands script longest c k old → holds c → (ticket : ℕ) → entry_in c.program (cell_at c) ticket k ≡ Some (record entry { ticket = ticket })
  pub actor : entry.actor ≡ k
  pub meets : entry.target ≡ target
  -- the task has gone on
  pub task : option_map (state_in script) new.task ≡ (acted (program_of script longest) entry (cell_of script old)).task
  -- the node is as before, and ready for the entry
  pub state : new.node.state ≡ old.node.state
  pub log : new.node.log ≡ old.node.log
  pub waiters : new.node.waiters ≡ old.node.waiters
  pub is_ready : IsReadyFor new.node entry

-- a turn that meets no other node is prepared, where it is what the task plans
abbrev pub PreparesAlone : List Procedure → Holder → Holder → ℕ → Act → Reply → Way → Entry → Type 0
PreparesAlone script old new k asked reply way entry =
    (longest : ℕ) → PlansOwn script longest old.task asked reply way → Prepared script longest (λ c. Unit {0}) old new k None entry

-- The node that a turn meets is prepared for the turn's entry.
pub record PreparedMet (script : List Procedure) (longest : ℕ) (was now : Holder) (entry : Entry) (child : Option Task) : Type 0 where
  pub cell : cell_of script now ≡ cell_of script was
  pub log : now.node.log ≡ was.node.log
  pub waiters : now.node.waiters ≡ was.node.waiters
  pub is_ready : IsReadyFor now.node entry
  pub takes_part : IsTrue (takes_part now.node.state entry.act)
  -- the child is the one that the act gives birth to, if it does
  pub bears : option_map (state_in script) child ≡ born (program_of script longest) entry.at entry.act

-- A turn that meets node n of another holder is prepared on both sides.
pub record PreparedMeeting (script : List Procedure) (longest : ℕ) (old new was now : Holder) (k n : ℕ) (entry : Entry) (child : Option Task) : Type 0 where
  pub actor : Prepared script longest (λ c. Stands script longest c n was) old new k (Some n) entry
  pub met : PreparedMet script longest was now entry child

-- a turn that meets node n of another holder is prepared, where it is what the task plans
abbrev pub PreparesMeeting : List Procedure → Holder → Holder → Holder → Holder → ℕ → ℕ → Act → Onward → Entry → Option Task → Type 0
PreparesMeeting script old new was now k n asked onward entry child =
    (longest : ℕ) → PlansVisit script longest old.task asked n onward → PreparedMeeting script longest old new was now k n entry child

-- the cell whose node has served an act
abbrev pub recorded : Cell → Act → Cell
recorded cell asked = record cell { state = state_after cell.state asked }

-- the cell whose node has served an act, which may have given birth to a task
abbrev pub served_cell : Cell → Act → Option TaskState → Cell
served_cell cell asked child = record { state = state_after cell.state asked; task = task_after cell.task child }

-- a holder's node has served an act, and its task is as it was
abbrev pub Records : List Procedure → Holder → Holder → Act → Type 0
Records script old new asked = cell_of script new ≡ recorded (cell_of script old) asked

-- a holder's node has served an act, and where it had no task it has the one that was born
abbrev pub Serves : List Procedure → Holder → Holder → Act → Option Task → Type 0
Serves script old new asked child = cell_of script new ≡ served_cell (cell_of script old) asked (option_map (state_in script) child)

-- a job's node is ready for a turn, whose ticket is later than those in its log
pub record CanRecord (node : NodeState) (ticket : ℕ) : Type 0 where
  pub entry : Entry
  pub is_ready : IsReadyFor node entry
  pub job : IsTrue (is_job node.state)
  pub later : All (λ before. before.ticket < ticket) node.log

-- a job's node is ready for a step, whose ticket is later than those in its log
pub record CanRecordStep (node : NodeState) (ticket : ℕ) : Type 0 where
  pub can : CanRecord node ticket
  pub step : can.entry.act ≡ act.Step

-- a node that a turn meets is ready for it, and its ticket is later than those in the node's log
pub record CanRecordMet (node : NodeState) (ticket : ℕ) : Type 0 where
  pub entry : Entry
  pub is_ready : IsReadyFor node entry
  pub takes_part : IsTrue (takes_part node.state entry.act)
  pub later : All (λ before. before.ticket < ticket) node.log

-- A holder's node has served the turn of its task: who waited at it was taken out where the turn is the task's end.
pub record Recorded (old new : Holder) (entry : Entry) (ticket : ℕ) (given : Option (List Waiter)) : Type 0 where
  pub cell : (script : List Procedure) → Records script old new entry.act
  pub log : new.node.log ≡ with_turn old.node.log entry ticket
  pub taken : given ≡ (if ends entry.act then Some old.node.waiters else None)
  pub waiters : new.node.waiters ≡ (if ends entry.act then [] else old.node.waiters)

-- A holder's node has served a turn that meets it: who waited at it was taken out unless the act only looks at it.
pub record RecordedMet (old new : Holder) (entry : Entry) (ticket : ℕ) (child : Option Task) (given : Option (List Waiter)) : Type 0 where
  pub cell : (script : List Procedure) → Serves script old new entry.act child
  pub log : new.node.log ≡ with_turn old.node.log entry ticket
  pub taken : given ≡ (if looks entry.act then None else Some old.node.waiters)
  pub waiters : new.node.waiters ≡ (if looks entry.act then old.node.waiters else [])

-- two holders stand for the same cells as before, and their nodes have the same logs and waiters
pub record AreAsBefore (script : List Procedure) (old new was now : Holder) : Type 0 where
  pub actor : IsAsBefore script old new
  pub met : IsAsBefore script was now
