-- What a task's next turn does: the plan of each statement, over what its operands stand for. Where an operand isn't bound or isn't of the needed
-- kind, the turn is refused, before all else (LIO, ICFP 2012).
use Rattle.std.specs.Prelude.{ℕ, ◌+◌, ◌-◌, ◌==◌, Bool, true, false, nat_le, if◌then◌else◌, List, [], ◌∷◌, Option, Some, None, Result, Ok, Err, option_and_then, slice_get}
use Rattle.lio_labels.specs.declared.label.Label.{Label}
use Rattle.lio_labels.specs.declared.privilege.Priv.{Priv}
use Rattle.lio_values.specs.declared.fault.Fault.{Fault}
use Rattle.lio_values.specs.declared.fault.FaultKind.{FaultKind}
use Rattle.lio_values.specs.declared.fault.FaultKind.TheVariants.{BadType, NoTurns, NoCells, ChildTurns, Depth, User, FlowRaise}
use Rattle.lio_values.specs.declared.value.Handle.{Handle}
use Rattle.lio_values.specs.declared.value.Plain.{Plain}
use Rattle.lio_values.specs.declared.value.Plain.TheVariants.{Unit as unit}
use Rattle.lio_values.specs.declared.value.Content.{Content}
use Rattle.lio_values.specs.declared.value.Content.TheVariants.{Kept, Faulted, Hidden}
use Rattle.lio_values.specs.declared.value.Value.{Value}
use Rattle.lio_values.specs.declared.act.Act.{Act}
use Rattle.lio_values.specs.declared.act.Act.TheVariants as act
use Rattle.lio_values.specs.declared.act.Birth.{Birth}
use Rattle.lio_values.specs.declared.act.Op.{Op}
use Rattle.lio_values.specs.declared.act.Op.TheVariants as op
use Rattle.lio_values.specs.declared.act.Reply.{Reply}
use Rattle.lio_values.specs.declared.act.Reply.TheVariants.{Done, Refused}
use Rattle.lio_syntax_lines.specs.declared.line.Operand.{Operand}
use Rattle.lio_syntax_lines.specs.declared.line.Simple.{Simple}
use Rattle.lio_syntax_lines.specs.declared.line.Simple.TheVariants as line
use Rattle.lio_syntax.specs.Statements.{Statement, Statements, Nothing, Procedure}
use Rattle.lio_syntax.specs.Statements as statement
use Rattle.lio_syntax.specs.Beginnings.{number_of}
use Rattle.lio_guards.specs.Guard.{guarded, guarded_relabel, guarded_expose}
use Rattle.lio_guards.specs.declared.verdict.Verdict.{Verdict}
use Rattle.lio_guards.specs.declared.verdict.Verdict.TheVariants.{Go, No}
use Rattle.lio_operators.specs.Operators.{operate1, operate2}
use Rattle.lio_cells.specs.State.{Kind, Reference, Variable, Channel, Result as result}
use Rattle.lio_syntax.specs.Environment.{bind_all}
use Rattle.lio_calculus.specs.Operands.{bound, all_bound, bare_of, pure_of, Labelled, sealed_of, flag_of, label_of, power_of, text_of, count_of, reference_of, variable_of, result_of, channel_of, seen_as}
use Rattle.lio_calculus.specs.Task.{TaskState}
use Rattle.lio_syntax.specs.Items.{Item, Do, Access, Mark, Back, Fail, open_calls}
use Rattle.lio_calculus.specs.Going.{Onward, Advance, Bind, Seal, Enter, Repeat, Try, Call, Return, Leave, Raise, RaiseTo, Unlabel, Lower, Release, Expose, HoldReference, HoldVariable, Fork, Spawn, BindReply, Throw, End}

-- what the turns of a script go by: its procedures, and how long a text may become
pub record Program : Type 0 where
  pub procedures : List Procedure
  pub longest : ℕ

-- the node that a turn meets: that of a handle, or the one that is to be made at a number
pub data Target : Type 0 where
  Node : Kind → Handle → Target
  New : ℕ → Target

-- a plan: nothing, for a task that has ended; an act of the task's own, with its reply; or an act that meets a node. Each says how the task goes on
pub data Plan : Type 0 where
  Over : Plan
  Own : Act → Reply → Onward → Plan
  Visit : Act → Target → Onward → Plan

-- a turn that concerns the task alone
abbrev pub stepping : Onward → Plan
stepping onward = Own act.Step Done onward

-- a refused act throws the fault that its reply shows
abbrev pub fault_at : TaskState → FaultKind → Fault
fault_at task kind = record { kind = kind; at = task.label }

abbrev pub refused : TaskState → Act → FaultKind → Plan
refused task act kind = Own act (Refused (fault_at task kind)) (Throw (fault_at task kind))

-- an operand that isn't bound, or isn't of the needed kind
abbrev pub bad_type : TaskState → Plan
bad_type task = refused task act.Step BadType

-- the task ends with a content
abbrev pub ending : Content → Plan
ending content = Own (act.Ended content) Done End

-- what a statement does with what it looked up, where that is there
abbrev pub with_seen : {X : Type 0} → TaskState → Option X → (X → Plan) → Plan
with_seen task None next = bad_type task
with_seen task (Some x) next = next x

-- what a verdict of a guard lets go
abbrev pub with_verdict : TaskState → Act → Verdict → (Label → Plan) → Plan
with_verdict task act (Go label) next = next label
with_verdict task act (No kind) next = refused task act kind

-- the verdict of an operation on a target's label
abbrev pub verdict_on : TaskState → Op → Label → Verdict
verdict_on task op target = guarded op task.label task.clearance target

-- what an operator makes is bound
abbrev pub computed : TaskState → List ℕ → Result Value FaultKind → Plan
computed task name (Ok value) = stepping (Bind name value)
computed task name (Err kind) = refused task act.Step kind

-- what takes so many numbers goes on where so many are left of the task's range, and is refused else
abbrev pub with_cells : TaskState → Act → ℕ → Plan → Plan
with_cells task act asked plan = if nat_le asked task.cells then plan else refused task act (NoCells asked task.cells)

-- a child that is given so many turns is born where so many are left behind this one, and is refused else
abbrev pub with_turns : TaskState → Act → ℕ → Plan → Plan
with_turns task act asked plan = if nat_le asked (task.turns - 1) then plan else refused task act (ChildTurns asked (task.turns - 1))

-- the number of a procedure in a script
abbrev pub procedure_at : Program → List ℕ → Option ℕ
procedure_at program name = number_of program.procedures name

-- a call, of a procedure that is there
abbrev pub calling : TaskState → List ℕ → List Value → Option Procedure → Plan
calling task name values None = bad_type task
calling task name values (Some procedure) =
    if nat_le 64 (open_calls task.items) then refused task act.Step Depth
    else stepping (Call name (bind_all [] procedure.parameters values) procedure.body)

-- what is returned to a call, or what the task ends with where no call is open
abbrev pub ending_with : TaskState → Option Plain → Plan
ending_with task None = bad_type task
ending_with task (Some plain) = ending (Kept plain)

abbrev pub returning : TaskState → Value → Plan
returning task value = if open_calls task.items == 0 then ending_with task (option_and_then pure_of (bare_of value)) else stepping (Return value)

-- a loop goes on as long as its condition holds
abbrev pub looping : Operand → Statements → Bool → Plan
looping condition block true = stepping (Repeat condition block)
looping condition block false = stepping Advance

abbrev pub choosing : Statements → Statements → Bool → Plan
choosing block other true = stepping (Enter block)
choosing block other false = stepping (Enter other)

-- a birth: the procedure's place, the arguments, the result's label, the clearance, the turns, the first number of the child's range and how many it has
abbrev pub birth_of : ℕ → List Value → Label → Label → ℕ → ℕ → ℕ → Birth
birth_of place values label clearance turns first cells =
    record { proc_at = place; args = values; result = label; clearance = clearance; turns = turns; first = first; cells = cells }

-- a child: it takes a number for itself and so many behind it, and its turns
abbrev pub with_room : TaskState → Act → ℕ → ℕ → Plan → Plan
with_room task act cells turns plan = with_cells task act (cells + 1) (with_turns task act turns plan)

-- a child with a result, of this label
abbrev pub forking : TaskState → List ℕ → Label → ℕ → ℕ → Birth → Plan
forking task name label turns cells birth =
    with_verdict task (act.Fork birth) (verdict_on task op.Fork label)
    (λ current. with_room task (act.Fork birth) cells turns (Visit (act.Fork birth) (New task.first) (Fork name label cells turns)))

-- a child without a result
abbrev pub spawning : TaskState → ℕ → ℕ → Birth → Plan
spawning task turns cells birth =
    with_room task (act.Spawn birth) cells turns (Visit (act.Spawn birth) (New task.first) (Spawn cells turns))

-- a raise, and then an access
abbrev pub raising : TaskState → Op → Simple → Handle → Plan
raising task op access handle =
    with_verdict task (act.Raise op handle.label) (verdict_on task op handle.label)
    (λ current. Own (act.Raise op handle.label) Done (RaiseTo current access))

-- a value is put into a new reference or variable
abbrev pub new_reference : TaskState → List ℕ → Label → Value → Plan
new_reference task name label value =
    with_verdict task (act.NewRef label value) (verdict_on task op.NewRef label)
    (λ current. with_cells task (act.NewRef label value) 1 (Visit (act.NewRef label value) (New task.first) (HoldReference name label)))

abbrev pub new_variable : TaskState → List ℕ → Label → Option Value → Plan
new_variable task name label value =
    with_verdict task (act.NewVar label value) (verdict_on task op.NewVar label)
    (λ current. with_cells task (act.NewVar label value) 1 (Visit (act.NewVar label value) (New task.first) (HoldVariable name label)))

-- a release by a privilege; a refused one shows no content
abbrev pub releasing : TaskState → List ℕ → Labelled → Label → Priv → Plan
releasing task name source target power =
    with_verdict task (act.Release source.label target power Hidden) (guarded_relabel task.label task.clearance source.label target power)
    (λ current. Own (act.Release source.label target power source.content) Done (Release name target))

-- the second label of an exposure: the one that the task is raised to; of a refused one, that which doesn't flow to the clearance, or the source's where a label is too wide
abbrev pub exposed_to : Label → Verdict → Label
exposed_to source (Go label) = label
exposed_to source (No (FlowRaise raised clearance)) = raised
exposed_to source (No kind) = source

-- what an exposure by a privilege does at a verdict; a refused one shows no content
abbrev pub exposing_at : TaskState → List ℕ → Labelled → Priv → Verdict → Plan
exposing_at task name source power verdict =
    with_verdict task (act.Expose source.label (exposed_to source.label verdict) power Hidden) verdict
    (λ label. Own (act.Expose source.label label power source.content) Done (Expose name label))

-- what was sealed is unlabelled with a privilege: the label rises by what the privilege doesn't cover alone
abbrev pub exposing : TaskState → List ℕ → Labelled → Priv → Plan
exposing task name source power = exposing_at task name source power (guarded_expose task.label task.clearance source.label power)

-- the plan of a statement that opens no block
unfoldable pub plan_simple : Program → TaskState → Simple → Plan
plan_simple program task (line.Let x a) = with_seen task (bound task.environment a) (λ value. stepping (Bind x value))
plan_simple program task (line.LetOne x op a) = with_seen task (bound task.environment a) (λ value. computed task x (operate1 program.longest op value))
plan_simple program task (line.LetTwo x a op b) =
    with_seen task (bound task.environment a) (λ left. with_seen task (bound task.environment b) (λ right. computed task x (operate2 program.longest op left right)))
plan_simple program task (line.Call x p arguments) =
    with_seen task (all_bound task.environment arguments) (λ values. calling task x values (option_and_then (slice_get program.procedures) (procedure_at program p)))
plan_simple program task (line.Return a) = with_seen task (bound task.environment a) (returning task)
plan_simple program task line.Stop = ending (Kept unit)
plan_simple program task (line.Throw a) = with_seen task (seen_as pure_of task.environment a) (λ plain. refused task act.Step (User plain))
plan_simple program task (line.Label x l a) =
    with_seen task (seen_as label_of task.environment l) (λ label. with_seen task (seen_as pure_of task.environment a)
    (λ plain. with_verdict task (act.Seal label) (verdict_on task op.Seal label) (λ current. Own (act.Seal label) Done (Seal x label plain))))
plan_simple program task (line.Unlabel x a) =
    with_seen task (option_and_then sealed_of (bound task.environment a))
    (λ sealed. with_verdict task (act.Raise op.Unlabel sealed.label) (verdict_on task op.Unlabel sealed.label)
    (λ current. Own (act.Raise op.Unlabel sealed.label) Done (Unlabel x current sealed.label sealed.content)))
plan_simple program task (line.UnlabelUsing x a p) =
    with_seen task (option_and_then sealed_of (bound task.environment a))
    (λ sealed. with_seen task (seen_as power_of task.environment p) (exposing task x sealed))
plan_simple program task (line.Taint l) =
    with_seen task (seen_as label_of task.environment l)
    (λ label. with_verdict task (act.Raise op.Taint label) (verdict_on task op.Taint label) (λ current. Own (act.Raise op.Taint label) Done (Raise current)))
plan_simple program task (line.Lower l) =
    with_seen task (seen_as label_of task.environment l)
    (λ label. with_verdict task (act.Lower label) (verdict_on task op.Lower label) (λ current. Own (act.Lower label) Done (Lower label)))
plan_simple program task (line.Relabel x a l p) =
    with_seen task (option_and_then sealed_of (bound task.environment a))
    (λ sealed. with_seen task (seen_as label_of task.environment l) (λ label. with_seen task (seen_as power_of task.environment p) (releasing task x sealed label)))
plan_simple program task (line.NewRef x l a) =
    with_seen task (seen_as label_of task.environment l) (λ label. with_seen task (bound task.environment a) (new_reference task x label))
plan_simple program task (line.NewVar x l) = with_seen task (seen_as label_of task.environment l) (λ label. new_variable task x label None)
plan_simple program task (line.FullVar x l a) =
    with_seen task (seen_as label_of task.environment l) (λ label. with_seen task (bound task.environment a) (λ value. new_variable task x label (Some value)))
plan_simple program task (line.Read x r) = with_seen task (seen_as reference_of task.environment r) (raising task op.Read (line.Read x r))
plan_simple program task (line.Write r a) =
    with_seen task (seen_as reference_of task.environment r) (λ handle. with_seen task (bound task.environment a)
    (λ value. with_verdict task (act.Write value) (verdict_on task op.Write handle.label) (λ current. Visit (act.Write value) (Node Reference handle) Advance)))
plan_simple program task (line.Take x v) = with_seen task (seen_as variable_of task.environment v) (raising task op.Take (line.Take x v))
plan_simple program task (line.Put v a) =
    with_seen task (seen_as variable_of task.environment v) (λ handle. with_seen task (bound task.environment a) (λ value. raising task op.Put (line.Put v a) handle))
plan_simple program task (line.Fork x l t c p arguments) =
    with_seen task (seen_as label_of task.environment l) (λ label. with_seen task (seen_as count_of task.environment t) (λ turns. with_seen task (seen_as count_of task.environment c)
    (λ cells. with_seen task (procedure_at program p) (λ place. with_seen task (all_bound task.environment arguments)
    (λ values. forking task x label turns cells (birth_of place values label label turns (task.first + 1) cells))))))
plan_simple program task (line.Spawn t c p arguments) =
    with_seen task (seen_as count_of task.environment t) (λ turns. with_seen task (seen_as count_of task.environment c)
    (λ cells. with_seen task (procedure_at program p) (λ place. with_seen task (all_bound task.environment arguments)
    (λ values. spawning task turns cells (birth_of place values task.clearance task.clearance turns (task.first + 1) cells)))))
plan_simple program task (line.Wait x r) = with_seen task (seen_as result_of task.environment r) (raising task op.Wait (line.Wait x r))
plan_simple program task (line.Send c a) =
    with_seen task (seen_as channel_of task.environment c) (λ handle. with_seen task (seen_as text_of task.environment a)
    (λ text. with_verdict task (act.Send text) (verdict_on task op.Send handle.label) (λ current. Visit (act.Send text) (Node Channel handle) Advance)))

-- the plan of a statement
abbrev pub plan_statement : Program → TaskState → Statement → Plan
plan_statement program task (statement.Do simple) = plan_simple program task simple
plan_statement program task (statement.If a block) = with_seen task (seen_as flag_of task.environment a) (choosing block Nothing)
plan_statement program task (statement.IfElse a block other) = with_seen task (seen_as flag_of task.environment a) (choosing block other)
plan_statement program task (statement.While a block) = with_seen task (seen_as flag_of task.environment a) (looping a block)
plan_statement program task (statement.Try block code payload handler) = stepping (Try block code payload handler)

-- the plan of an access, whose raise is done
unfoldable pub plan_access : TaskState → Simple → Plan
plan_access task (line.Read x r) = with_seen task (seen_as reference_of task.environment r) (λ handle. Visit act.Read (Node Reference handle) (BindReply x))
plan_access task (line.Take x v) = with_seen task (seen_as variable_of task.environment v) (λ handle. Visit act.Take (Node Variable handle) (BindReply x))
plan_access task (line.Put v a) =
    with_seen task (seen_as variable_of task.environment v) (λ handle. with_seen task (bound task.environment a) (λ value. Visit (act.Put value) (Node Variable handle) Advance))
plan_access task (line.Wait x r) = with_seen task (seen_as result_of task.environment r) (λ handle. Visit act.Wait (Node result handle) (BindReply x))
plan_access task statement = bad_type task

-- the plan of a task's items
abbrev pub plan_items : Program → TaskState → List Item → Plan
plan_items program task [] = ending (Kept unit)
plan_items program task (Do statement ∷ items) = plan_statement program task statement
plan_items program task (Access statement ∷ items) = plan_access task statement
plan_items program task (Mark code payload handler ∷ items) = stepping Advance
plan_items program task (Back caller name ∷ items) = stepping (Leave caller name)
plan_items program task (Fail fault ∷ items) = ending (Faulted fault)

-- what a task's next turn does: an ended one takes none, and one without turns ends with the fault that says so
unfoldable pub plan : Program → TaskState → Plan
plan program task =
    if task.ended then Over
    else (if task.turns == 0 then ending (Faulted (fault_at task NoTurns)) else plan_items program task task.items)
