-- What comes first is planned as the definitions plan it.
use Rattle.std.specs.Borrow.{Bor}
use Rattle.std.proofs.Common.{◌≡◌, refl, sym, subst, Bool, true, false, List, [], ◌∷◌, Option, Some, None}
use Rattle.lio_values.specs.declared.fault.Fault.{Fault}
use Rattle.lio_values.specs.declared.small.Trap.TheVariants as trap
use Rattle.lio_syntax_lines.specs.declared.line.Operand.{Operand}
use Rattle.lio_syntax_lines.specs.declared.line.Simple.{Simple}
use Rattle.lio_syntax.specs.Statements.{Nothing}
use Rattle.lio_syntax.specs.Statements as statement
use Rattle.lio_syntax.specs.Items.{Item, Do, Access, Mark, Back, Fail, rest_of}
use Rattle.lio_task_control.specs.Front.{IsBack, IsMark, IsChoice, IsLoop, Begins, IsGuarded}
use Rattle.lio_calculus.specs.Operands.{flag_of, seen_as}
use Rattle.lio_calculus.specs.Plan.{Program, choosing, looping, with_seen}
use Rattle.lio_task_turns.specs.declared.standing.Standing.{Standing}
use Rattle.lio_task_plan.specs.declared.plan.Plan.{Plan}
use Rattle.lio_task_plan.specs.declared.plan.Plan.TheVariants as planned
use Rattle.lio_task_plan.specs.declared.plan.Short.TheVariants as short
use Rattle.lio_task_plan.specs.declared.plan.Ending.TheVariants as ending
use Rattle.lio_task_plan.specs.declared.plan.Full.TheVariants as full
use Rattle.lio_task_plan.specs.declared.plan.Control.{Control}
use Rattle.lio_task_plan.specs.declared.plan.Control.TheVariants as control
use Rattle.lio_task_plan.specs.Planned.{PlansFront, PlansSimple, plan_by, state_at}
use Rattle.lio_task_plan.proofs.LeadsLemmas.{choice_by, loop_by, guarded_by}

-- a step of control
abbrev step : Control → Plan
step c = planned.Short (short.Control c)

pub nothing_first : (program : Program) (task : Standing) (items : List Item) → items ≡ [] → PlansFront program task items (planned.Ends ending.Done)
nothing_first program task items e = subst (λ (is : List Item). PlansFront program task is (planned.Ends ending.Done)) (sym e) refl

pub back_first : (program : Program) (task : Standing) (items : List Item) → IsBack items → PlansFront program task items (planned.Short (short.Control control.Leave))
back_first program task [] h = absurd h
back_first program task (Do s ∷ items) h = absurd h
back_first program task (Access s ∷ items) h = absurd h
back_first program task (Mark code payload handler ∷ items) h = absurd h
back_first program task (Back caller name ∷ items) h = refl
back_first program task (Fail fault ∷ items) h = absurd h

pub mark_first : (program : Program) (task : Standing) (items : List Item) → IsMark items → PlansFront program task items (planned.Short (short.Control control.Pass))
mark_first program task [] h = absurd h
mark_first program task (Do s ∷ items) h = absurd h
mark_first program task (Access s ∷ items) h = absurd h
mark_first program task (Mark code payload handler ∷ items) h = refl
mark_first program task (Back caller name ∷ items) h = absurd h
mark_first program task (Fail fault ∷ items) h = absurd h

pub fault_first : (program : Program) (task : Standing) (items : List Item) (fault : Fault) → items ≡ Fail fault ∷ rest_of items → PlansFront program task items (planned.Ends ending.Done)
fault_first program task items fault e = subst (λ (is : List Item). PlansFront program task is (planned.Ends ending.Done)) (sym e) refl

pub access_first : (program : Program) (task : Standing) (items : List Item) (simple : Bor Simple) → items ≡ Access simple.now ∷ rest_of items → PlansFront program task items (planned.Full (full.Access simple))
access_first program task items simple e = subst (λ (is : List Item). PlansFront program task is (planned.Full (full.Access simple))) (sym e) refl

pub simple_first : (program : Program) (task : Standing) (items : List Item) (simple : Simple) (plan : Plan) → Begins items (statement.Do simple) → PlansSimple task simple plan → PlansFront program task items plan
simple_first program task items simple plan e is = subst (λ (is : List Item). PlansFront program task is plan) (sym e) (is program (Do (statement.Do simple) ∷ rest_of items))

pub try_first : (program : Program) (task : Standing) (items : List Item) → IsGuarded items → PlansFront program task items (planned.Short (short.Control control.Enter))
try_first program task items h =
    let P : List Item → Type 0 = λ items. PlansFront program task items (step control.Enter) in guarded_by P (λ block handler code payload items. refl) items h

-- a condition, as it is seen
abbrev pub Sees : Program → Standing → Operand → Option Bool → Type 0
Sees program task condition seen = seen_as flag_of (state_at program task).environment condition ≡ seen

-- a choice goes on as its condition is seen, where that is the plan of each choice with this condition
choice_seen : (program : Program) (task : Standing) (condition : Operand) (items : List Item) (plan : Plan) (seen : Option Bool) → Sees program task condition seen
    → ((block : statement.Statements) (items : List Item) → plan_by program (state_at program task) (Do (statement.If condition block) ∷ items) plan ≡ with_seen (state_at program task) seen (choosing block Nothing))
    → ((block other : statement.Statements) (items : List Item) → plan_by program (state_at program task) (Do (statement.IfElse condition block other) ∷ items) plan ≡ with_seen (state_at program task) seen (choosing block other))
    → IsChoice items condition → PlansFront program task items plan
choice_seen program task condition items plan seen sees one two h =
    let P : List Item → Type 0 = λ items. PlansFront program task items plan in
    choice_by P condition
    (λ block items. subst (λ (f : Option Bool). plan_by program (state_at program task) (Do (statement.If condition block) ∷ items) plan ≡ with_seen (state_at program task) f (choosing block Nothing)) (sym sees) (one block items))
    (λ block other items. subst (λ (f : Option Bool). plan_by program (state_at program task) (Do (statement.IfElse condition block other) ∷ items) plan ≡ with_seen (state_at program task) f (choosing block other)) (sym sees) (two block other items)) items h

pub choice_true : (program : Program) (task : Standing) (condition : Operand) (items : List Item) → Sees program task condition (Some true) → IsChoice items condition → PlansFront program task items (planned.Short (short.Control control.Enter))
choice_true program task condition items seen h = choice_seen program task condition items (step control.Enter) (Some true) seen (λ block items. refl) (λ block other items. refl) h

pub choice_false : (program : Program) (task : Standing) (condition : Operand) (items : List Item) → Sees program task condition (Some false) → IsChoice items condition → PlansFront program task items (planned.Short (short.Control control.EnterOther))
choice_false program task condition items seen h = choice_seen program task condition items (step control.EnterOther) (Some false) seen (λ block items. refl) (λ block other items. refl) h

pub choice_none : (program : Program) (task : Standing) (condition : Operand) (items : List Item) → Sees program task condition None → IsChoice items condition → PlansFront program task items (planned.Full (full.Refused trap.BadType))
choice_none program task condition items seen h = choice_seen program task condition items (planned.Full (full.Refused trap.BadType)) None seen (λ block items. refl) (λ block other items. refl) h

-- and a loop
loop_seen : (program : Program) (task : Standing) (condition : Operand) (items : List Item) (plan : Plan) (seen : Option Bool) → Sees program task condition seen
    → ((block : statement.Statements) (items : List Item) → plan_by program (state_at program task) (Do (statement.While condition block) ∷ items) plan ≡ with_seen (state_at program task) seen (looping condition block))
    → IsLoop items condition → PlansFront program task items plan
loop_seen program task condition items plan seen sees one h =
    let P : List Item → Type 0 = λ items. PlansFront program task items plan in
    loop_by P condition
    (λ block items. subst (λ (f : Option Bool). plan_by program (state_at program task) (Do (statement.While condition block) ∷ items) plan ≡ with_seen (state_at program task) f (looping condition block)) (sym sees) (one block items)) items h

pub loop_true : (program : Program) (task : Standing) (condition : Operand) (items : List Item) → Sees program task condition (Some true) → IsLoop items condition → PlansFront program task items (planned.Short (short.Control control.Enter))
loop_true program task condition items seen h = loop_seen program task condition items (step control.Enter) (Some true) seen (λ block items. refl) h

pub loop_false : (program : Program) (task : Standing) (condition : Operand) (items : List Item) → Sees program task condition (Some false) → IsLoop items condition → PlansFront program task items (planned.Short (short.Control control.Pass))
loop_false program task condition items seen h = loop_seen program task condition items (step control.Pass) (Some false) seen (λ block items. refl) h

pub loop_none : (program : Program) (task : Standing) (condition : Operand) (items : List Item) → Sees program task condition None → IsLoop items condition → PlansFront program task items (planned.Full (full.Refused trap.BadType))
loop_none program task condition items seen h = loop_seen program task condition items (planned.Full (full.Refused trap.BadType)) None seen (λ block items. refl) h

-- what each thing that may come first plans
pub ruleset firsts = (
  nothing_first,
  back_first,
  mark_first,
  fault_first,
  access_first,
  simple_first,
  try_first,
)
