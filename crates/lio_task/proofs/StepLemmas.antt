-- How a task goes on by a step of control.
use Rattle.std.proofs.Common.{◌≡◌, refl, sym, ap, ◌-◌, List, [], ◌∷◌}
use Rattle.std.specs.Prelude.{Result, Ok, Err, OnOk}
use Rattle.lio_values.specs.declared.value.Value.TheVariants.{Bare}
use Rattle.lio_values.specs.declared.value.Plain.TheVariants.{Unit as unit}
use Rattle.lio_values.specs.declared.act.Act.{Act}
use Rattle.lio_values.specs.declared.act.Reply.{Reply}
use Rattle.lio_syntax.specs.Statements.{If, IfElse, While, Try}
use Rattle.lio_syntax.specs.Statements as statement
use Rattle.lio_syntax.specs.Items.{Item, Do, Access, Mark, Back, Fail, rest_of, enter}
use Rattle.lio_task_control.specs.Front.{AtStatement, IsBack, entered, entered_other}
use Rattle.lio_syntax.specs.Throwing.{returned}
use Rattle.lio_calculus.specs.Task.{TaskState}
use Rattle.lio_calculus.specs.Going.{at, gone_on}
use Rattle.lio_task_plan.specs.declared.plan.Control.TheVariants as control
use Rattle.lio_task_plan.specs.Planned.{leave_of, entering, entering_other, control_of}
use Rattle.lio_task.specs.Goes.{spent}

-- a block begins
enter_by : (task : TaskState) (items : List Item) (act : Act) (reply : Reply) → AtStatement items
    → record (spent (record task { items = items })) { items = entered items } ≡ gone_on (record task { items = items }) (entering items) act reply
unfolding gone_on
enter_by task [] act reply h = absurd h
enter_by task (Do (statement.Do simple) ∷ items) act reply h = refl
enter_by task (Do (If a block) ∷ items) act reply h = refl
enter_by task (Do (IfElse a block other) ∷ items) act reply h = refl
enter_by task (Do (While a block) ∷ items) act reply h = refl
enter_by task (Do (Try block code payload handler) ∷ items) act reply h = refl
enter_by task (Access s ∷ items) act reply h = refl
enter_by task (Mark code payload handler ∷ items) act reply h = absurd h
enter_by task (Back caller name ∷ items) act reply h = absurd h
enter_by task (Fail fault ∷ items) act reply h = absurd h

pub enter_on : (task : TaskState) (act : Act) (reply : Reply) → AtStatement task.items → record (spent task) { items = entered task.items } ≡ gone_on task (control_of task.items control.Enter) act reply
enter_on task act reply h = enter_by task task.items act reply h

other_by : (task : TaskState) (items : List Item) (act : Act) (reply : Reply) → AtStatement items
    → record (spent (record task { items = items })) { items = entered_other items } ≡ gone_on (record task { items = items }) (entering_other items) act reply
unfolding gone_on enter
other_by task [] act reply h = absurd h
other_by task (Do (statement.Do simple) ∷ items) act reply h = refl
other_by task (Do (If a block) ∷ items) act reply h = refl
other_by task (Do (IfElse a block other) ∷ items) act reply h = refl
other_by task (Do (While a block) ∷ items) act reply h = refl
other_by task (Do (Try block code payload handler) ∷ items) act reply h = refl
other_by task (Access s ∷ items) act reply h = refl
other_by task (Mark code payload handler ∷ items) act reply h = absurd h
other_by task (Back caller name ∷ items) act reply h = absurd h
other_by task (Fail fault ∷ items) act reply h = absurd h

pub other_on : (task : TaskState) (act : Act) (reply : Reply) → AtStatement task.items → record (spent task) { items = entered_other task.items } ≡ gone_on task (control_of task.items control.EnterOther) act reply
other_on task act reply h = other_by task task.items act reply h

leave_by : (task : TaskState) (items : List Item) (act : Act) (reply : Reply) → task.items ≡ items → IsBack items
    → record (at task (returned (Bare unit) task.environment items)) { turns = task.turns - 1 } ≡ gone_on task (leave_of items) act reply
unfolding gone_on returned
leave_by task [] act reply e h = absurd h
leave_by task (Do s ∷ items) act reply e h = absurd h
leave_by task (Access s ∷ items) act reply e h = absurd h
leave_by task (Mark code payload handler ∷ items) act reply e h = absurd h
leave_by task (Back caller name ∷ items) act reply e h =
    ap (λ (is : List Item). record (at task (returned (Bare unit) task.environment (Back caller name ∷ is))) { turns = task.turns - 1 }) (ap rest_of (sym e))
leave_by task (Fail fault ∷ items) act reply e h = absurd h

pub leave_on : (task : TaskState) (act : Act) (reply : Reply) → IsBack task.items
    → record (at task (returned (Bare unit) task.environment task.items)) { turns = task.turns - 1 } ≡ gone_on task (control_of task.items control.Leave) act reply
leave_on task act reply h = leave_by task task.items act reply refl h

pub ok_on : {T E : Type 0} (P Q : Type 0) (result : Result T E) → (P → Q) → OnOk result P → OnOk result Q
ok_on P Q (Ok x) f h = f h
ok_on P Q (Err e) f h = h
