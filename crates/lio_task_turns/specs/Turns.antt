-- What the turn of a statement says: the plan of the definitions. Where there a block stands for itself, the code has the place at which it begins.
use Rattle.std.specs.Prelude.{◌≡◌, ℕ, List, Option}
use Rattle.lio_labels.specs.declared.label.Label.{Label}
use Rattle.lio_values.specs.declared.fault.Fault.{Fault}
use Rattle.lio_values.specs.declared.fault.FaultKind.{FaultKind}
use Rattle.lio_values.specs.declared.value.Handle.{Handle}
use Rattle.lio_values.specs.declared.value.Plain.{Plain}
use Rattle.lio_values.specs.declared.value.Content.{Content}
use Rattle.lio_values.specs.declared.value.Value.{Value}
use Rattle.lio_values.specs.declared.act.Act.{Act}
use Rattle.lio_values.specs.declared.act.Act.TheVariants as act
use Rattle.lio_values.specs.declared.act.Op.{Op}
use Rattle.lio_values.specs.declared.act.Op.TheVariants as op
use Rattle.lio_values.specs.declared.act.Reply.TheVariants as reply
use Rattle.lio_syntax_lines.specs.declared.line.Line.{Line}
use Rattle.lio_syntax_lines.specs.declared.line.Simple.{Simple}
use Rattle.lio_syntax.specs.Statements.{Procedure}
use Rattle.lio_syntax.specs.Lines.{script_lines}
use Rattle.lio_cells.specs.State as kind
use Rattle.lio_task_control.specs.Continuation.{body_at}
use Rattle.lio_calculus.specs.Task.{TaskState}
use Rattle.lio_calculus.specs.Going as going
use Rattle.lio_calculus.specs.Plan as plan
use Rattle.lio_calculus.specs.Plan.{Program, plan_simple}
use Rattle.lio_task_turns.specs.declared.turn.Turn.{Turn}
use Rattle.lio_task_turns.specs.declared.turn.Turn.TheVariants as turn
use Rattle.lio_task_turns.specs.declared.turn.Target.{Target}
use Rattle.lio_task_turns.specs.declared.turn.Target.TheVariants as target
use Rattle.lio_task_turns.specs.declared.turn.Onward.{Onward}
use Rattle.lio_task_turns.specs.declared.turn.Onward.TheVariants as onward
use Rattle.lio_task_turns.specs.declared.standing.Standing.{Standing}
use Rattle.lio_task_turns.specs.StateOf.{state_of}

-- the node that a turn meets
abbrev pub target_of : Target → plan.Target
target_of (target.Reference handle) = plan.Node kind.Reference handle
target_of (target.Variable handle) = plan.Node kind.Variable handle
target_of (target.Channel handle) = plan.Node kind.Channel handle
target_of (target.Result handle) = plan.Node kind.Result handle
target_of (target.New number) = plan.New number

-- how a task goes on, where this is the statement in front, or the access in front is of this statement
abbrev pub onward_of : List Line → Simple → Onward → going.Onward
onward_of lines simple onward.Advance = going.Advance
onward_of lines simple (onward.Bind name value) = going.Bind name.now value
onward_of lines simple (onward.Seal name label plain) = going.Seal name.now label plain
onward_of lines simple (onward.Call name environment at) = going.Call name.now environment (body_at lines at)
onward_of lines simple (onward.Return value) = going.Return value
onward_of lines simple (onward.Raise label) = going.Raise label
onward_of lines simple (onward.RaiseTo label) = going.RaiseTo label simple
onward_of lines simple (onward.Unlabel name label source content) = going.Unlabel name.now label source content
onward_of lines simple (onward.Lower clearance) = going.Lower clearance
onward_of lines simple (onward.Release name label) = going.Release name.now label
onward_of lines simple (onward.Expose name label) = going.Expose name.now label
onward_of lines simple (onward.HoldReference name label) = going.HoldReference name.now label
onward_of lines simple (onward.HoldVariable name label) = going.HoldVariable name.now label
onward_of lines simple (onward.Fork name label cells turns) = going.Fork name.now label cells turns
onward_of lines simple (onward.Spawn cells turns) = going.Spawn cells turns
onward_of lines simple (onward.BindReply name) = going.BindReply name.now
onward_of lines simple (onward.Throw fault) = going.Throw fault
onward_of lines simple onward.End = going.End

-- how a task goes on after a turn
abbrev pub onward_in : Turn → Onward
onward_in (turn.Step onward) = onward
onward_in (turn.Own act reply onward) = onward
onward_in (turn.Visit act target onward) = onward

-- a turn's act
abbrev pub act_in : Turn → Act
act_in (turn.Step onward) = act.Step
act_in (turn.Own act reply onward) = act
act_in (turn.Visit act target onward) = act

-- the plan of a statement that opens no block, or of its access
abbrev pub turn_of : List Line → Simple → Turn → plan.Plan
turn_of lines simple (turn.Step onward) = plan.stepping (onward_of lines simple onward)
turn_of lines simple (turn.Own act reply onward) = plan.Own act reply (onward_of lines simple onward)
turn_of lines simple (turn.Visit act target onward) = plan.Visit act (target_of target) (onward_of lines simple onward)

-- a turn is a plan of a task's state, for a statement
abbrev pub IsFor : Standing → Simple → Turn → (List Line → plan.Plan) → Type 0
IsFor task simple turn p = (lines : List Line) → turn_of lines simple turn ≡ p lines

-- and for each statement
abbrev pub Is : Standing → Turn → (List Line → plan.Plan) → Type 0
Is task turn p = (simple : Simple) → IsFor task simple turn p

-- a turn is the plan of a statement by each program
abbrev pub Plans : Standing → Simple → Turn → Type 0
Plans task simple turn = (program : Program) → IsFor task simple turn (λ lines. plan_simple program (state_of lines task) simple)

-- a turn is a plan of a task's state in the lines of a script, for a statement
abbrev pub IsIn : List Procedure → Standing → Simple → Turn → (TaskState → plan.Plan) → Type 0
IsIn script task simple turn p = turn_of (script_lines script) simple turn ≡ p (state_of (script_lines script) task)

-- a turn is the plan of a statement by a program
abbrev pub PlansBy : Program → Standing → Simple → Turn → Type 0
PlansBy program task simple turn = IsIn program.procedures task simple turn (λ state. plan_simple program state simple)

-- a turn is the plan of the access of a statement
abbrev pub PlansAccess : Standing → Simple → Turn → Type 0
PlansAccess task simple turn = IsFor task simple turn (λ lines. plan.plan_access (state_of lines task) simple)

-- a refused act throws the fault that its reply shows
abbrev pub fault_of : Standing → FaultKind → Fault
fault_of task kind = record { kind = kind; at = task.label.now }

abbrev pub refusal : Standing → Act → FaultKind → Turn
refusal task act kind = turn.Own act (reply.Refused (fault_of task kind)) (onward.Throw (fault_of task kind))

-- the raise of a statement that has an access
abbrev pub Raises : Standing → Op → Handle → Turn → Type 0
Raises task op handle turn = (access : Simple) → IsFor task access turn (λ lines. plan.raising (state_of lines task) op access handle)

-- an act that makes a node, where there is a number for it
abbrev pub MakesNode : Standing → Act → Onward → Turn → Type 0
MakesNode task act onward turn =
    (simple : Simple) → IsFor task simple turn (λ lines. plan.with_cells (state_of lines task) act 1 (plan.Visit act (plan.New task.first) (onward_of lines simple onward)))

-- an act that makes a child, where there are enough turns for it
abbrev pub GivesTurns : Standing → Act → ℕ → Onward → Turn → Type 0
GivesTurns task act turns onward turn =
    (simple : Simple) → IsFor task simple turn (λ lines. plan.with_turns (state_of lines task) act turns (plan.Visit act (plan.New task.first) (onward_of lines simple onward)))

-- a turn, where a guard lets its act go
abbrev pub Guards : Standing → Op → Label → Turn → Turn → Type 0
Guards task operation label taken turn =
    (simple : Simple) → IsFor task simple turn (λ lines. plan.with_verdict (state_of lines task) (act_in taken) (plan.verdict_on (state_of lines task) operation label) (λ current. turn_of lines simple taken))

-- an act that makes a node, where a guard lets it go and there is a number for it
abbrev pub guarded_node : Standing → Op → Label → Act → going.Onward → List Line → plan.Plan
guarded_node task operation label act onward lines =
    plan.with_verdict (state_of lines task) act (plan.verdict_on (state_of lines task) operation label)
    (λ current. plan.with_cells (state_of lines task) act 1 (plan.Visit act (plan.New task.first) onward))

abbrev pub GuardsNode : Standing → Op → Label → Act → Onward → Turn → Type 0
GuardsNode task operation label act onward turn = (simple : Simple) → IsFor task simple turn (λ lines. guarded_node task operation label act (onward_of lines simple onward) lines)

-- a new reference
abbrev pub MakesReference : Standing → List ℕ → Label → Value → Turn → Type 0
MakesReference task name label value made = Is task made (guarded_node task op.NewRef label (act.NewRef label value) (going.HoldReference name label))

-- a new variable
abbrev pub MakesVariable : Standing → List ℕ → Label → Option Value → Turn → Type 0
MakesVariable task name label value made = Is task made (guarded_node task op.NewVar label (act.NewVar label value) (going.HoldVariable name label))

-- the write of a value to a reference
abbrev pub Writes : Standing → Handle → Value → Turn → Type 0
Writes task handle value made = Guards task op.Write handle.label (turn.Visit (act.Write value) (target.Reference handle) onward.Advance) made

-- the message of a text to a channel
abbrev pub Sends : Standing → Handle → List ℕ → Turn → Type 0
Sends task handle text made = Guards task op.Send handle.label (turn.Visit (act.Send text) (target.Channel handle) onward.Advance) made

-- the seal of a plain value under a label
abbrev pub Seals : Standing → List ℕ → Label → Plain → Turn → Type 0
Seals task name label plain made =
    Is task made (λ lines. plan.with_verdict (state_of lines task) (act.Seal label) (plan.verdict_on (state_of lines task) op.Seal label)
    (λ current. plan.Own (act.Seal label) reply.Done (going.Seal name label plain)))

-- the new clearance
abbrev pub Lowers : Standing → Label → Turn → Type 0
Lowers task label made = Guards task op.Lower label (turn.Own (act.Lower label) reply.Done (onward.Lower label)) made

-- the raise to a label
abbrev pub Taints : Standing → Label → Turn → Type 0
Taints task label made =
    Is task made (λ lines. plan.with_verdict (state_of lines task) (act.Raise op.Taint label) (plan.verdict_on (state_of lines task) op.Taint label)
    (λ current. plan.Own (act.Raise op.Taint label) reply.Done (going.Raise current)))

-- the raise to a label, under which a content is sealed
abbrev pub Unlabels : Standing → List ℕ → Label → Content → Turn → Type 0
Unlabels task name label content made =
    Is task made (λ lines. plan.with_verdict (state_of lines task) (act.Raise op.Unlabel label) (plan.verdict_on (state_of lines task) op.Unlabel label)
    (λ current. plan.Own (act.Raise op.Unlabel label) reply.Done (going.Unlabel name current label content)))

-- an act that makes a child, where there are enough numbers and turns for it
abbrev pub MakesChild : Standing → Act → ℕ → ℕ → Onward → Turn → Type 0
MakesChild task act cells turns onward turn =
    (simple : Simple) → IsFor task simple turn (λ lines. plan.with_room (state_of lines task) act cells turns (plan.Visit act (plan.New task.first) (onward_of lines simple onward)))

-- and where a guard lets it go
abbrev pub GuardsChild : Standing → Op → Label → Act → ℕ → ℕ → Onward → Turn → Type 0
GuardsChild task operation label act cells turns onward turn =
    (simple : Simple) → IsFor task simple turn (λ lines. plan.with_verdict (state_of lines task) act (plan.verdict_on (state_of lines task) operation label)
    (λ current. plan.with_room (state_of lines task) act cells turns (plan.Visit act (plan.New task.first) (onward_of lines simple onward))))
