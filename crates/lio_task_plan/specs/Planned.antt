-- What the code's plan of a turn says: the plan of the definitions.
use Rattle.std.specs.Prelude.{◌≡◌, ℕ, List, ◌∷◌, Option, Result}
use Rattle.lio_values.specs.declared.act.Act.TheVariants as act
use Rattle.lio_values.specs.declared.fault.FaultKind.{FaultKind}
use Rattle.lio_values.specs.declared.fault.FaultKind.TheVariants.{NoTurns}
use Rattle.lio_values.specs.declared.value.Content.{Content}
use Rattle.lio_values.specs.declared.value.Content.TheVariants.{Kept, Faulted}
use Rattle.lio_values.specs.declared.value.Plain.{Plain}
use Rattle.lio_values.specs.declared.value.Plain.TheVariants.{Unit as unit}
use Rattle.lio_values.specs.declared.value.Value.{Value}
use Rattle.lio_values.specs.declared.value.Value.TheVariants.{Bare}
use Rattle.lio_syntax_lines.specs.declared.operators.One.{One}
use Rattle.lio_syntax_lines.specs.declared.operators.Two.{Two}
use Rattle.lio_operators.specs.Operators.{operate1, on_bare_and_sealed}
use Rattle.lio_operators.specs.Outcomes.{Tells}
use Rattle.lio_operators.specs.declared.outcome.Outcome.{Outcome}
use Rattle.lio_syntax_lines.specs.declared.line.Simple.{Simple}
use Rattle.lio_syntax_lines.specs.declared.line.Simple.TheVariants as line
use Rattle.lio_syntax.specs.Statements.{Nothing}
use Rattle.lio_syntax.specs.Lines.{script_lines}
use Rattle.lio_syntax.specs.Statements as statement
use Rattle.lio_syntax.specs.Items.{Item, Do, Access, Back, Fail}
use Rattle.lio_calculus.specs.Going as going
use Rattle.lio_calculus.specs.Plan as plan
use Rattle.lio_calculus.specs.Plan.{Program}
use Rattle.lio_calculus.specs.Task.{TaskState}
use Rattle.lio_values.specs.Small.{plain_of, kind_of}
use Rattle.lio_task_plan.specs.declared.plan.Plan.{Plan}
use Rattle.lio_task_plan.specs.declared.plan.Plan.TheVariants as planned
use Rattle.lio_task_plan.specs.declared.plan.Short.{Short}
use Rattle.lio_task_plan.specs.declared.plan.Short.TheVariants as short
use Rattle.lio_task_plan.specs.declared.plan.Ending.{Ending}
use Rattle.lio_task_plan.specs.declared.plan.Ending.TheVariants as ending
use Rattle.lio_task_plan.specs.declared.plan.Full.{Full}
use Rattle.lio_task_plan.specs.declared.plan.Full.TheVariants as full
use Rattle.lio_task_plan.specs.declared.plan.Control.{Control}
use Rattle.lio_task_plan.specs.declared.plan.Control.TheVariants as control
use Rattle.lio_task_plan.specs.Leads.{LeadsFull}
use Rattle.lio_task_turns.specs.declared.turn.Turn.{Turn}
use Rattle.lio_task_turns.specs.declared.standing.Standing.{Standing}
use Rattle.lio_task_turns.specs.StateOf.{state_of}
use Rattle.lio_task_turns.specs.Turns.{turn_of, Is}

-- the statement in front that opens no block, or whose access is in front
abbrev pub simple_of : List Item → Simple
simple_of (Do (statement.Do simple) ∷ items) = simple
simple_of (Access simple ∷ items) = simple
simple_of items = line.Stop

-- the return to the caller in front
abbrev pub leave_of : List Item → going.Onward
leave_of (Back caller name ∷ items) = going.Leave caller name
leave_of items = going.Advance

-- the block of the statement in front
abbrev pub entering : List Item → going.Onward
entering (Do (statement.If condition block) ∷ items) = going.Enter block
entering (Do (statement.IfElse condition block other) ∷ items) = going.Enter block
entering (Do (statement.While condition block) ∷ items) = going.Repeat condition block
entering (Do (statement.Try block code payload handler) ∷ items) = going.Try block code payload handler
entering items = going.Advance

-- the block of the `else` of the `if` in front; where it has none, no statement
abbrev pub entering_other : List Item → going.Onward
entering_other (Do (statement.If condition block) ∷ items) = going.Enter Nothing
entering_other (Do (statement.IfElse condition block other) ∷ items) = going.Enter other
entering_other items = going.Advance

-- how a task goes on by a step of control, with these items
abbrev pub control_of : List Item → Control → going.Onward
control_of items control.Pass = going.Advance
control_of items control.Enter = entering items
control_of items control.EnterOther = entering_other items
control_of items control.Leave = leave_of items

-- how a task goes on by a short step, with these items
abbrev pub short_of : List Item → Short → going.Onward
short_of items (short.Control control) = control_of items control
short_of items (short.Set name value) = going.Bind name.now (Bare (plain_of value))

-- the content with which a task ends that has these items left
abbrev pub left_of : List Item → Content
left_of (Fail fault ∷ items) = Faulted fault
left_of items = Kept unit

-- the content with which a task ends
abbrev pub content_by : TaskState → List Item → Ending → Content
content_by state items ending.Exhausted = Faulted (plan.fault_at state NoTurns)
content_by state items ending.Done = left_of items

-- the plan of a turn that is planned in full
abbrev pub full_by : Program → TaskState → Full → plan.Plan
full_by program state (full.Refused trap) = plan.refused state act.Step (kind_of trap)
full_by program state (full.Statement simple) = plan.plan_simple program state simple.now
full_by program state (full.Access simple) = plan.plan_access state simple.now

-- the plan of the definitions that the code's plan is, of a task with these items
abbrev pub plan_by : Program → TaskState → List Item → Plan → plan.Plan
plan_by program state items planned.Over = plan.Over
plan_by program state items (planned.Short step) = plan.stepping (short_of items step)
plan_by program state items (planned.Ends ending) = plan.ending (content_by state items ending)
plan_by program state items (planned.Full turn) = full_by program state turn

-- a task as a program's script has it
abbrev pub state_at : Program → Standing → TaskState
state_at program task = state_of (script_lines program.procedures) task

-- a task's turn is planned by a program as the definitions plan it
abbrev pub IsPlanned : Program → TaskState → Plan → Type 0
IsPlanned program state planned = plan_by program state state.items planned ≡ plan.plan program state

-- what comes first is planned as the definitions plan it, of a task with turns left
abbrev pub PlansFront : Program → Standing → List Item → Plan → Type 0
PlansFront program task items planned = plan_by program (state_at program task) items planned ≡ plan.plan_items program (state_at program task) items

-- a statement that opens no block is planned as the definitions plan it
abbrev pub PlansSimple : Standing → Simple → Plan → Type 0
PlansSimple task simple planned = (program : Program) (items : List Item) → plan_by program (state_at program task) items planned ≡ plan.plan_simple program (state_at program task) simple

-- a turn that is planned in full is the plan of the definitions, of a task with these items
abbrev pub PlansFull : Program → Standing → Full → Turn → Type 0
PlansFull program task planned turn =
    (items : List Item) → LeadsFull items planned → turn_of (script_lines program.procedures) (simple_of items) turn ≡ full_by program (state_at program task) planned

-- what an operator gives of a statement is bound, or refused, or left to be made
abbrev pub PlansOutcome : Simple → List ℕ → Outcome → Plan → Type 0
PlansOutcome simple name outcome planned =
    (program : Program) (state : TaskState) (items : List Item) (given : Result Value FaultKind) → Tells outcome given → plan.computed state name given ≡ plan.plan_simple program state simple
    → plan_by program state items planned ≡ plan.plan_simple program state simple

-- what an operator made is bound, or is the refusal
abbrev pub Computes : Standing → List ℕ → Result Value FaultKind → Turn → Type 0
Computes task name answer turn = Is task turn (λ lines. plan.computed (state_of lines task) name answer)

-- what an operator on one operand makes is bound, or is the refusal
abbrev pub ComputesOne : Standing → ℕ → List ℕ → One → Option Value → Turn → Type 0
ComputesOne task longest name op seen turn =
    Is task turn (λ lines. plan.with_seen (state_of lines task) seen (λ value. plan.computed (state_of lines task) name (operate1 longest op value)))

-- what an operator on a bare operand and a sealed one, if it is there, makes is bound, or is the refusal
abbrev pub ComputesSealed : Standing → ℕ → List ℕ → Two → Plain → Option Value → Turn → Type 0
ComputesSealed task longest name op left seen turn =
    Is task turn (λ lines. plan.with_seen (state_of lines task) seen (λ value. plan.computed (state_of lines task) name (on_bare_and_sealed longest op left value)))
