-- What the plan of a task can be, case by case: its first item, and the plan. So a fact of each plan is shown of each case that has something to say,
-- and of all others at once.
use Rattle.std.proofs.Common.{◌≡◌, refl, ℕ, ◌==◌, Bool, true, false, if◌then◌else◌, List, [], ◌∷◌, Option, Some, None}
use Rattle.lio_values.specs.declared.fault.Fault.{Fault}
use Rattle.lio_values.specs.declared.fault.FaultKind.TheVariants.{NoTurns}
use Rattle.lio_values.specs.declared.value.Handle.{Handle}
use Rattle.lio_values.specs.declared.value.Plain.TheVariants.{Unit as unit}
use Rattle.lio_values.specs.declared.value.Content.TheVariants.{Kept, Faulted}
use Rattle.lio_values.specs.declared.act.Act.{Act}
use Rattle.lio_values.specs.declared.act.Op.{Op}
use Rattle.lio_syntax_lines.specs.declared.line.Operand.{Operand}
use Rattle.lio_syntax_lines.specs.declared.line.Simple.{Simple}
use Rattle.lio_syntax_lines.specs.declared.line.Simple.TheVariants as line
use Rattle.lio_syntax.specs.Statements.{Statement, Statements}
use Rattle.lio_syntax.specs.Statements as statement
use Rattle.lio_cells.specs.State.{Kind}
use Rattle.lio_syntax.specs.Environment.{Environment}
use Rattle.lio_syntax.specs.Items.{Item, Do, Access, Mark, Back, Fail}
use Rattle.lio_calculus.specs.Operands.{bound, seen_as, flag_of, reference_of, variable_of, result_of}
use Rattle.lio_calculus.specs.Task.{TaskState}
use Rattle.lio_calculus.specs.Going.{Onward, Advance, Enter, Repeat, Try, Leave}
use Rattle.lio_calculus.specs.Plan.{Program, Plan, Over, Visit, Node, stepping, ending, fault_at, bad_type, with_seen, choosing, looping, plan_statement, plan_access, plan_items, plan}
use Rattle.lio_calculus.proofs.Outcome.{Reaches, Reads, Takes, Puts, Waits, Outcome, outcome}

-- the plan of items; what has an operand that isn't of the needed kind is mistyped, and a loop that is done and a mark are passed
pub data ItemsCase (program : Program) (task : TaskState) : List Item → Plan → Type 0 where
  Ends : ItemsCase program task [] (ending (Kept unit))
  Does : {s : Simple} {items : List Item} {p : Plan} → Outcome program task s p → ItemsCase program task (Do (statement.Do s) ∷ items) p
  IsMistyped : {item : Item} {items : List Item} → ItemsCase program task (item ∷ items) (bad_type task)
  Enters : {a : Operand} {block : Statements} {items : List Item} → ItemsCase program task (Do (statement.If a block) ∷ items) (stepping (Enter block))
  Skips : {a : Operand} {block : Statements} {items : List Item} → ItemsCase program task (Do (statement.If a block) ∷ items) (stepping (Enter statement.Nothing))
  Chooses : {a : Operand} {block other : Statements} {items : List Item} → ItemsCase program task (Do (statement.IfElse a block other) ∷ items) (stepping (Enter block))
  ChoosesOther : {a : Operand} {block other : Statements} {items : List Item} → ItemsCase program task (Do (statement.IfElse a block other) ∷ items) (stepping (Enter other))
  Repeats : {a : Operand} {block : Statements} {items : List Item} → ItemsCase program task (Do (statement.While a block) ∷ items) (stepping (Repeat a block))
  Passes : {item : Item} {items : List Item} → ItemsCase program task (item ∷ items) (stepping Advance)
  Tries : {block : Statements} {code payload : List ℕ} {handler : Statements} {items : List Item}
      → ItemsCase program task (Do (statement.Try block code payload handler) ∷ items) (stepping (Try block code payload handler))
  Visits : {s : Simple} {o : Op} {asked : Act} {kind : Kind} {handle : Handle} {onward : Onward} {items : List Item} → Reaches task s o asked kind handle onward
      → ItemsCase program task (Access s ∷ items) (Visit asked (Node kind handle) onward)
  Leaves : {caller : Environment} {name : List ℕ} {items : List Item} → ItemsCase program task (Back caller name ∷ items) (stepping (Leave caller name))
  Fails : {fault : Fault} {items : List Item} → ItemsCase program task (Fail fault ∷ items) (ending (Faulted fault))

-- what is looked up
seen-case : {X : Type 0} {program : Program} {task : TaskState} {item : Item} {items : List Item} (seen : Option X) (next : X → Plan)
    → ((x : X) → seen ≡ Some x → ItemsCase program task (item ∷ items) (next x)) → ItemsCase program task (item ∷ items) (with_seen task seen next)
seen-case None next fine = IsMistyped
seen-case (Some x) next fine = fine x refl

module _ (program : Program) (task : TaskState) (items : List Item) where
  if-case : (a : Operand) (block : Statements) (flag : Bool) → ItemsCase program task (Do (statement.If a block) ∷ items) (choosing block statement.Nothing flag)
  if-case a block true = Enters
  if-case a block false = Skips

  choosing-case : (a : Operand) (block other : Statements) (flag : Bool) → ItemsCase program task (Do (statement.IfElse a block other) ∷ items) (choosing block other flag)
  choosing-case a block other true = Chooses
  choosing-case a block other false = ChoosesOther

  looping-case : (a : Operand) (block : Statements) (flag : Bool) → ItemsCase program task (Do (statement.While a block) ∷ items) (looping a block flag)
  looping-case a block true = Repeats
  looping-case a block false = Passes

  statement-case : (s : Statement) → ItemsCase program task (Do s ∷ items) (plan_statement program task s)
  statement-case (statement.Do simple) = Does (outcome program task simple)
  statement-case (statement.If a block) = seen-case (seen_as flag_of task.environment a) _ (λ flag e. if-case a block flag)
  statement-case (statement.IfElse a block other) = seen-case (seen_as flag_of task.environment a) _ (λ flag e. choosing-case a block other flag)
  statement-case (statement.While a block) = seen-case (seen_as flag_of task.environment a) _ (λ flag e. looping-case a block flag)
  statement-case (statement.Try block code payload handler) = Tries

  access-case : (s : Simple) → ItemsCase program task (Access s ∷ items) (plan_access task s)
  unfolding plan_access
  access-case (line.Read x r) = seen-case (seen_as reference_of task.environment r) _ (λ handle e. Visits (Reads e))
  access-case (line.Take x v) = seen-case (seen_as variable_of task.environment v) _ (λ handle e. Visits (Takes e))
  access-case (line.Put v a) = seen-case (seen_as variable_of task.environment v) _ (λ handle e. seen-case (bound task.environment a) _ (λ value f. Visits (Puts e f)))
  access-case (line.Wait x r) = seen-case (seen_as result_of task.environment r) _ (λ handle e. Visits (Waits e))
  access-case s = IsMistyped

pub items-case : (program : Program) (task : TaskState) (items : List Item) → ItemsCase program task items (plan_items program task items)
items-case program task [] = Ends
items-case program task (Do s ∷ items) = statement-case program task items s
items-case program task (Access s ∷ items) = access-case program task items s
items-case program task (Mark code payload handler ∷ items) = Passes
items-case program task (Back caller name ∷ items) = Leaves
items-case program task (Fail fault ∷ items) = Fails

-- what holds of each case holds of the plan
pub plan-by : (Q : Plan → Type 0) (program : Program) (task : TaskState) → Q Over → Q (ending (Faulted (fault_at task NoTurns)))
    → ((p : Plan) → task.ended ≡ false → ItemsCase program task task.items p → Q p) → Q (plan program task)
unfolding plan
plan-by Q program task over spent fine = by task.ended (task.turns == 0) refl
  where
    by : (ended none : Bool) → task.ended ≡ ended → Q (if ended then Over else (if none then ending (Faulted (fault_at task NoTurns)) else plan_items program task task.items))
    by true none e = over
    by false true e = spent
    by false false e = fine (plan_items program task task.items) e (items-case program task task.items)
