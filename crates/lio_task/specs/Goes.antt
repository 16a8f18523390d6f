-- How the code's tasks go on.
use Rattle.std.specs.Prelude.{◌≡◌, ◌-◌, List}
use Rattle.lio_values.specs.declared.act.Act.{Act}
use Rattle.lio_values.specs.declared.act.Reply.{Reply}
use Rattle.lio_syntax_lines.specs.declared.line.Line.{Line}
use Rattle.lio_syntax.specs.Statements.{Procedure}
use Rattle.lio_syntax.specs.Lines.{script_lines}
use Rattle.lio_syntax.specs.Items.{Item, rest_of}
use Rattle.lio_task_control.specs.Front.{AtStatement}
use Rattle.lio_calculus.specs.Task.{TaskState}
use Rattle.lio_calculus.specs.Going as going
use Rattle.lio_calculus.specs.Going.{gone_on}
use Rattle.lio_calculus.specs.Afforded.{Affords}
use Rattle.lio_task_plan.specs.declared.plan.Control.{Control}
use Rattle.lio_task_plan.specs.declared.plan.Short.{Short}
use Rattle.lio_task_turns.specs.declared.turn.Onward.{Onward}
use Rattle.lio_task_plan.specs.Leads.{LeadsShort}
use Rattle.lio_task_plan.specs.Planned.{control_of, short_of, simple_of}
use Rattle.lio_task_turns.specs.Turns.{onward_of}
use Rattle.lio_task.specs.declared.go.Way.{Way}
use Rattle.lio_task.specs.declared.go.Way.TheVariants as way
use Rattle.lio_task.specs.declared.task.Task.{Task}
use Rattle.lio_task.specs.StateOf.{state_in}

-- a task whose first item was dropped, and one of whose turns was spent, if one is left
abbrev pub spent : TaskState → TaskState
spent task = record task { items = rest_of task.items; turns = task.turns - 1 }

-- how a task with these items goes on
abbrev pub way_of : List Line → List Item → Way → going.Onward
way_of lines items (way.Short step) = short_of items step
way_of lines items way.End = going.End
way_of lines items (way.On onward) = onward_of lines (simple_of items) onward

-- a task can go on after the turn of a statement or of its access: one comes first, and the task keeps what its type keeps
abbrev pub CanGoOn : List Procedure → Task → Onward → Type 0
CanGoOn script task onward =
    let state : TaskState = state_in script task
    in AtStatement state.items × Affords state (onward_of (script_lines script) (simple_of state.items) onward)

-- a task can go on in this way
abbrev pub CanGo : List Procedure → Task → Way → Type 0
CanGo script task (way.Short step) = LeadsShort (state_in script task).items step
CanGo script task way.End = Unit {0}
CanGo script task (way.On onward) = CanGoOn script task onward

-- a task has gone on
abbrev pub GoesOn : List Procedure → Task → Task → Onward → Act → Reply → Type 0
GoesOn script old new onward asked reply =
    state_in script new ≡ gone_on (state_in script old) (onward_of (script_lines script) (simple_of (state_in script old).items) onward) asked reply

-- a task has gone on by a step of control, whatever the act and the reply
abbrev pub Steps : List Procedure → Task → Task → Control → Type 0
Steps script old new control =
    (asked : Act) (reply : Reply) → state_in script new ≡ gone_on (state_in script old) (control_of (state_in script old).items control) asked reply

-- a task has gone on by a short step, whatever the act and the reply
abbrev pub StepsShort : List Procedure → Task → Task → Short → Type 0
StepsShort script old new step =
    (asked : Act) (reply : Reply) → state_in script new ≡ gone_on (state_in script old) (short_of (state_in script old).items step) asked reply

-- a task has gone on in a way
abbrev pub Goes : List Procedure → Task → Task → Way → Act → Reply → Type 0
Goes script old new way asked reply = state_in script new ≡ gone_on (state_in script old) (way_of (script_lines script) (state_in script old).items way) asked reply
