-- The plan of a task that is seen with hidden values is its plan with hidden values: statement by statement.
use Rattle.std.proofs.Common.{◌≡◌, refl, ℕ, ◌+◌, Bool, true, false, if◌then◌else◌, nat_le, ◌==◌, List, [], ◌∷◌, map, Option, Some, None, Result, Ok, Err, option_and_then}
use Rattle.std.specs.Prelude.{option_map, slice_get}
use Rattle.lio_labels.specs.declared.label.Label.{Label}
use Rattle.lio_values.specs.declared.fault.FaultKind.{FaultKind}
use Rattle.lio_values.specs.declared.fault.FaultKind.TheVariants.{Depth, NoTurns}
use Rattle.lio_values.specs.declared.value.Content.TheVariants.{Faulted}
use Rattle.lio_values.specs.declared.value.Value.{Value}
use Rattle.lio_values.specs.declared.value.Value.TheVariants.{Bare, Sealed}
use Rattle.lio_values.specs.declared.value.Plain.{Plain}
use Rattle.lio_values.specs.declared.act.Act.TheVariants as act
use Rattle.lio_values.specs.declared.act.Op.TheVariants as op
use Rattle.lio_values.specs.Erasure.{erase_content, erase_plain, erase_value}
use Rattle.lio_syntax_lines.specs.declared.line.Operand.{Operand}
use Rattle.lio_syntax_lines.specs.declared.line.Simple.{Simple}
use Rattle.lio_syntax_lines.specs.declared.line.Simple.TheVariants as line
use Rattle.lio_syntax.specs.Statements.{Statement, Statements, Nothing, Procedure}
use Rattle.lio_syntax.specs.Statements as statement
use Rattle.lio_operators.specs.Operators.{operate1, operate2}
use Rattle.lio_operators.specs.Laws.{hide_result}
use Rattle.lio_operators.proofs.OperatorLemmas.{hidden_from_one, hidden_from_two}
use Rattle.lio_syntax.specs.Environment.{bind_all}
use Rattle.lio_calculus.specs.Operands.{bound, all_bound, pure_of, Labelled, sealed_of, flag_of, label_of, power_of, text_of, count_of, reference_of, variable_of, result_of, channel_of, seen_as}
use Rattle.lio_calculus.specs.Task.{TaskState}
use Rattle.lio_syntax.specs.Items.{Item, Do, Access, open_calls}
use Rattle.lio_calculus.specs.Going.{Call, Return}
use Rattle.lio_calculus.specs.Plan.{Program, Plan, Over, fault_at, bad_type, refused, stepping, ending, ending_with, computed, calling, returning, choosing, looping, with_seen, verdict_on, birth_of, procedure_at, plan_simple, plan_statement, plan_access, plan_items, plan}
use Rattle.lio_syntax.specs.Hiding.{hide_environment, hide_item}
use Rattle.lio_calculus.specs.Hiding.{hide_task, hide_asked, hide_onward, hide_plan}
use Rattle.lio_calculus.proofs.HidingLemmas.{bound-hidden, seen_as-hidden, open_calls-hidden, all_bound-hidden, bind_all-hidden, IsBlind, blind-at-lists, pure-blind}
use Rattle.lio_calculus.proofs.PlanLemmas.{bad_type-hidden, with_seen-same, with_seen-mapped, with_verdict-hidden, raising-hidden, sealing-hidden, releasing-hidden, exposing-hidden, new_reference-hidden, new_variable-hidden, writing-hidden, sending-hidden, forking-hidden, spawning-hidden, unlabelling-hidden}

-- a view of an operand
seen : {X : Type 0} (view : Plain → Option X) → IsBlind view → (observer : Label) (task : TaskState) (operand : Operand) (next hidden : X → Plan) → ((x : X) → hidden x ≡ hide_plan observer (next x))
    → with_seen (hide_task observer task) (seen_as view (hide_environment observer task.environment) operand) hidden ≡ hide_plan observer (with_seen task (seen_as view task.environment operand) next)
seen view blind observer task operand next hidden is = rw (seen_as-hidden view blind observer task.environment operand) (with_seen-same observer task (seen_as view task.environment operand) next hidden is)

-- what an operand stands for
value : (observer : Label) (task : TaskState) (operand : Operand) (next hidden : Value → Plan) → ((v : Value) → hidden (erase_value observer v) ≡ hide_plan observer (next v))
    → with_seen (hide_task observer task) (bound (hide_environment observer task.environment) operand) hidden ≡ hide_plan observer (with_seen task (bound task.environment operand) next)
value observer task operand next hidden is = rw (bound-hidden observer task.environment operand) (with_seen-mapped observer task (bound task.environment operand) (erase_value observer) next hidden is)

values : (observer : Label) (task : TaskState) (operands : List Operand) (next hidden : List Value → Plan) → ((vs : List Value) → hidden (map (erase_value observer) vs) ≡ hide_plan observer (next vs))
    → with_seen (hide_task observer task) (all_bound (hide_environment observer task.environment) operands) hidden ≡ hide_plan observer (with_seen task (all_bound task.environment operands) next)
values observer task operands next hidden is = rw (all_bound-hidden observer task.environment operands) (with_seen-mapped observer task (all_bound task.environment operands) (map (erase_value observer)) next hidden is)

-- a sealed value
abbrev hide_labelled : Label → Labelled → Labelled
hide_labelled observer s = record { label = s.label; content = erase_content observer s.label s.content }

sealed_of-hidden : (observer : Label) (v : Option Value) → option_and_then sealed_of (option_map (erase_value observer) v) ≡ option_map (hide_labelled observer) (option_and_then sealed_of v)
sealed_of-hidden observer None = refl
sealed_of-hidden observer (Some (Bare plain)) = refl
sealed_of-hidden observer (Some (Sealed label content)) = refl

labelled : (observer : Label) (task : TaskState) (operand : Operand) (next hidden : Labelled → Plan) → ((s : Labelled) → hidden (hide_labelled observer s) ≡ hide_plan observer (next s))
    → with_seen (hide_task observer task) (option_and_then sealed_of (bound (hide_environment observer task.environment) operand)) hidden ≡ hide_plan observer (with_seen task (option_and_then sealed_of (bound task.environment operand)) next)
labelled observer task operand next hidden is =
    rw (bound-hidden observer task.environment operand) (rw (sealed_of-hidden observer (bound task.environment operand))
    (with_seen-mapped observer task (option_and_then sealed_of (bound task.environment operand)) (hide_labelled observer) next hidden is))

-- what an operator makes
computed-hidden : (observer : Label) (task : TaskState) (name : List ℕ) (made : Result Value FaultKind) → computed (hide_task observer task) name (hide_result observer made) ≡ hide_plan observer (computed task name made)
unfolding hide_asked hide_onward
computed-hidden observer task name (Ok v) = refl
computed-hidden observer task name (Err kind) = refl

-- calls and returns
calling-hidden : (observer : Label) (task : TaskState) (name : List ℕ) (vs : List Value) (procedure : Option Procedure)
    → calling (hide_task observer task) name (map (erase_value observer) vs) procedure ≡ hide_plan observer (calling task name vs procedure)
unfolding hide_asked hide_onward
calling-hidden observer task name vs None = bad_type-hidden observer task
calling-hidden observer task name vs (Some procedure) =
    rw (open_calls-hidden observer task.items) (rw (bind_all-hidden observer [] procedure.parameters vs) (chosen (nat_le 64 (open_calls task.items))))
  where
    chosen : (b : Bool)
        → (if b then refused (hide_task observer task) act.Step Depth else stepping (Call name (hide_environment observer (bind_all [] procedure.parameters vs)) procedure.body))
        ≡ hide_plan observer (if b then refused task act.Step Depth else stepping (Call name (bind_all [] procedure.parameters vs) procedure.body))
    chosen true = refl
    chosen false = refl

returning-hidden : (observer : Label) (task : TaskState) (v : Value) → returning (hide_task observer task) (erase_value observer v) ≡ hide_plan observer (returning task v)
unfolding hide_asked hide_onward
returning-hidden observer task (Bare plain) =
    rw (open_calls-hidden observer task.items) (rw (pure-blind observer plain)
    (elim (open_calls task.items == 0) as (λ b. (if b then ending_with (hide_task observer task) (pure_of plain) else stepping (Return (Bare (erase_plain observer plain)))) ≡ hide_plan observer (if b then ending_with task (pure_of plain) else stepping (Return (Bare plain)))) [
      | true ↦ ended (pure_of plain)
      | false ↦ refl
    ]))
  where
    ended : (kept : Option Plain) → ending_with (hide_task observer task) kept ≡ hide_plan observer (ending_with task kept)
    ended None = bad_type-hidden observer task
    ended (Some p) = refl
returning-hidden observer task (Sealed label content) =
    rw (open_calls-hidden observer task.items) (elim (open_calls task.items == 0) as (λ b. (if b then bad_type (hide_task observer task) else stepping (Return (erase_value observer (Sealed label content)))) ≡ hide_plan observer (if b then bad_type task else stepping (Return (Sealed label content)))) [ true ↦ refl | false ↦ refl ])

-- a statement that opens no block
plan_simple-hidden : (program : Program) (observer : Label) (task : TaskState) (simple : Simple) → plan_simple program (hide_task observer task) simple ≡ hide_plan observer (plan_simple program task simple)
unfolding plan_simple hide_asked hide_onward
plan_simple-hidden program observer task (line.Let x a) = value observer task a _ _ (λ v. refl)
plan_simple-hidden program observer task (line.LetOne x one a) =
    value observer task a _ _ (λ v. rw (hidden_from_one observer program.longest one v) (computed-hidden observer task x (operate1 program.longest one v)))
plan_simple-hidden program observer task (line.LetTwo x a two b) =
    value observer task a _ _ (λ v. value observer task b _ _ (λ w. rw (hidden_from_two observer program.longest two v w) (computed-hidden observer task x (operate2 program.longest two v w))))
plan_simple-hidden program observer task (line.Call x p arguments) =
    values observer task arguments _ _ (λ vs. calling-hidden observer task x vs (option_and_then (slice_get program.procedures) (procedure_at program p)))
plan_simple-hidden program observer task (line.Return a) = value observer task a _ _ (returning-hidden observer task)
plan_simple-hidden program observer task line.Stop = refl
plan_simple-hidden program observer task (line.Throw a) = seen pure_of pure-blind observer task a _ _ (λ plain. refl)
plan_simple-hidden program observer task (line.Label x l a) = seen label_of (blind-at-lists label_of (λ items. refl)) observer task l _ _ (λ label. seen pure_of pure-blind observer task a _ _ (sealing-hidden observer task x label))
plan_simple-hidden program observer task (line.Unlabel x a) = labelled observer task a _ _ (unlabelling-hidden observer task x)
plan_simple-hidden program observer task (line.UnlabelUsing x a p) = labelled observer task a _ _ (λ s. seen power_of (blind-at-lists power_of (λ items. refl)) observer task p _ _ (exposing-hidden observer task x s))
plan_simple-hidden program observer task (line.Taint l) =
    seen label_of (blind-at-lists label_of (λ items. refl)) observer task l _ _ (λ label. with_verdict-hidden observer task (act.Raise op.Taint label) (verdict_on task op.Taint label) _ _ (λ current. refl))
plan_simple-hidden program observer task (line.Lower l) =
    seen label_of (blind-at-lists label_of (λ items. refl)) observer task l _ _ (λ label. with_verdict-hidden observer task (act.Lower label) (verdict_on task op.Lower label) _ _ (λ current. refl))
plan_simple-hidden program observer task (line.Relabel x a l p) =
    labelled observer task a _ _ (λ s. seen label_of (blind-at-lists label_of (λ items. refl)) observer task l _ _ (λ label. seen power_of (blind-at-lists power_of (λ items. refl)) observer task p _ _ (releasing-hidden observer task x s label)))
plan_simple-hidden program observer task (line.NewRef x l a) = seen label_of (blind-at-lists label_of (λ items. refl)) observer task l _ _ (λ label. value observer task a _ _ (new_reference-hidden observer task x label))
plan_simple-hidden program observer task (line.NewVar x l) = seen label_of (blind-at-lists label_of (λ items. refl)) observer task l _ _ (λ label. new_variable-hidden observer task x label None)
plan_simple-hidden program observer task (line.FullVar x l a) = seen label_of (blind-at-lists label_of (λ items. refl)) observer task l _ _ (λ label. value observer task a _ _ (λ v. new_variable-hidden observer task x label (Some v)))
plan_simple-hidden program observer task (line.Read x r) = seen reference_of (blind-at-lists reference_of (λ items. refl)) observer task r _ _ (raising-hidden observer task op.Read (line.Read x r))
plan_simple-hidden program observer task (line.Write r a) = seen reference_of (blind-at-lists reference_of (λ items. refl)) observer task r _ _ (λ handle. value observer task a _ _ (writing-hidden observer task handle))
plan_simple-hidden program observer task (line.Take x v) = seen variable_of (blind-at-lists variable_of (λ items. refl)) observer task v _ _ (raising-hidden observer task op.Take (line.Take x v))
plan_simple-hidden program observer task (line.Put v a) =
    seen variable_of (blind-at-lists variable_of (λ items. refl)) observer task v _ _ (λ handle. value observer task a _ _ (λ w. raising-hidden observer task op.Put (line.Put v a) handle))
plan_simple-hidden program observer task (line.Fork x l t n p arguments) =
    seen label_of (blind-at-lists label_of (λ items. refl)) observer task l _ _ (λ label. seen count_of (blind-at-lists count_of (λ items. refl)) observer task t _ _ (λ turns. seen count_of (blind-at-lists count_of (λ items. refl)) observer task n _ _ (λ cells. with_seen-same observer task (procedure_at program p) _ _
    (λ place. values observer task arguments _ _ (λ vs. forking-hidden observer task x label turns cells (birth_of place vs label label turns (task.first + 1) cells))))))
plan_simple-hidden program observer task (line.Spawn t n p arguments) =
    seen count_of (blind-at-lists count_of (λ items. refl)) observer task t _ _ (λ turns. seen count_of (blind-at-lists count_of (λ items. refl)) observer task n _ _ (λ cells. with_seen-same observer task (procedure_at program p) _ _
    (λ place. values observer task arguments _ _ (λ vs. spawning-hidden observer task turns cells (birth_of place vs task.clearance task.clearance turns (task.first + 1) cells)))))
plan_simple-hidden program observer task (line.Wait x r) = seen result_of (blind-at-lists result_of (λ items. refl)) observer task r _ _ (raising-hidden observer task op.Wait (line.Wait x r))
plan_simple-hidden program observer task (line.Send c a) = seen channel_of (blind-at-lists channel_of (λ items. refl)) observer task c _ _ (λ handle. seen text_of (blind-at-lists text_of (λ items. refl)) observer task a _ _ (sending-hidden observer task handle))

-- a statement
choosing-hidden : (observer : Label) (block other : Statements) (flag : Bool) → choosing block other flag ≡ hide_plan observer (choosing block other flag)
unfolding hide_asked hide_onward
choosing-hidden observer block other true = refl
choosing-hidden observer block other false = refl

looping-hidden : (observer : Label) (condition : Operand) (block : Statements) (flag : Bool) → looping condition block flag ≡ hide_plan observer (looping condition block flag)
unfolding hide_asked hide_onward
looping-hidden observer condition block true = refl
looping-hidden observer condition block false = refl

plan_statement-hidden : (program : Program) (observer : Label) (task : TaskState) (s : Statement) → plan_statement program (hide_task observer task) s ≡ hide_plan observer (plan_statement program task s)
unfolding hide_asked hide_onward
plan_statement-hidden program observer task (statement.Do simple) = plan_simple-hidden program observer task simple
plan_statement-hidden program observer task (statement.If a block) = seen flag_of (blind-at-lists flag_of (λ items. refl)) observer task a _ _ (choosing-hidden observer block Nothing)
plan_statement-hidden program observer task (statement.IfElse a block other) = seen flag_of (blind-at-lists flag_of (λ items. refl)) observer task a _ _ (choosing-hidden observer block other)
plan_statement-hidden program observer task (statement.While a block) = seen flag_of (blind-at-lists flag_of (λ items. refl)) observer task a _ _ (looping-hidden observer a block)
plan_statement-hidden program observer task (statement.Try block code payload handler) = refl

-- an access, whose act may carry a value
plan_access-hidden : (observer : Label) (task : TaskState) (simple : Simple) → plan_access (hide_task observer task) simple ≡ hide_plan observer (plan_access task simple)
unfolding plan_access hide_asked hide_onward
plan_access-hidden observer task (line.Read x r) = seen reference_of (blind-at-lists reference_of (λ items. refl)) observer task r _ _ (λ handle. refl)
plan_access-hidden observer task (line.Take x v) = seen variable_of (blind-at-lists variable_of (λ items. refl)) observer task v _ _ (λ handle. refl)
plan_access-hidden observer task (line.Put v a) = seen variable_of (blind-at-lists variable_of (λ items. refl)) observer task v _ _ (λ handle. value observer task a _ _ (λ w. refl))
plan_access-hidden observer task (line.Wait x r) = seen result_of (blind-at-lists result_of (λ items. refl)) observer task r _ _ (λ handle. refl)
plan_access-hidden observer task simple = refl

-- the items of a task
plan_items-hidden : (program : Program) (observer : Label) (task : TaskState) (items : List Item) → plan_items program (hide_task observer task) (map (hide_item observer) items) ≡ hide_plan observer (plan_items program task items)
unfolding hide_asked hide_onward
plan_items-hidden program observer task (Do s ∷ items) = plan_statement-hidden program observer task s
plan_items-hidden program observer task (Access simple ∷ items) = plan_access-hidden observer task simple
plan_items-hidden program observer task items = refl

-- the plan of a task that is seen with hidden values
pub plan-hidden : (program : Program) (observer : Label) (task : TaskState) → plan program (hide_task observer task) ≡ hide_plan observer (plan program task)
unfolding plan hide_asked hide_onward
plan-hidden program observer task = by task.ended (task.turns == 0)
  where
    by : (ended none : Bool)
        → (if ended then Over else (if none then ending (Faulted (fault_at task NoTurns)) else plan_items program (hide_task observer task) (map (hide_item observer) task.items)))
        ≡ hide_plan observer (if ended then Over else (if none then ending (Faulted (fault_at task NoTurns)) else plan_items program task task.items))
    by true none = refl
    by false true = refl
    by false false = plan_items-hidden program observer task task.items
