-- The values in a plan have what the values of the task have.
use Rattle.std.proofs.Common.{◌≡◌, refl, subst, sym, inl, inr, ℕ, IsTrue, List, [], ◌∷◌, All, Option, Some, None, Result, Ok, Err}
use Rattle.std.specs.Prelude.{option_and_then}
use Rattle.std.specs.Option.{option_map}
use Rattle.std.specs.List.{list_all}
use Rattle.std.proofs.lemmas.Bool.{and_parts}
use Rattle.std.proofs.lemmas.List.Elements.{All-nil, All-head, All-tail, All-cons}
use Rattle.lio_labels.specs.declared.label.Label.{Label}
use Rattle.lio_labels.specs.declared.privilege.Priv.{Priv}
use Rattle.lio_values.specs.declared.fault.FaultKind.{FaultKind}
use Rattle.lio_values.specs.declared.fault.FaultKind.TheVariants.{BadType, NoTurns, Depth, User}
use Rattle.lio_values.specs.declared.value.Plain.TheVariants.{Unit as unit, Items}
use Rattle.lio_values.specs.declared.value.Content.TheVariants.{Faulted}
use Rattle.lio_values.specs.declared.value.Value.{Value}
use Rattle.lio_values.specs.declared.value.Value.TheVariants.{Bare, Sealed}
use Rattle.lio_values.specs.declared.act.Act.{Act}
use Rattle.lio_values.specs.declared.act.Act.TheVariants as act
use Rattle.lio_syntax_lines.specs.declared.line.Operand.{Operand}
use Rattle.lio_syntax_lines.specs.declared.line.Simple.{Simple}
use Rattle.lio_syntax_lines.specs.Operands.{is_said}
use Rattle.lio_syntax_lines.specs.Simple.{simple_operands}
use Rattle.lio_syntax.specs.Statements as statement
use Rattle.lio_guards.specs.declared.verdict.Verdict.TheVariants.{No}
use Rattle.lio_guards.specs.Laws.{Fails as FailsFor, FailsToExpose}
use Rattle.lio_guards.proofs.GuardLemmas.{refused_where_test_fails, release_refused_where_test_fails, expose_refused_where_test_fails}
use Rattle.lio_operators.specs.Operators.{operate1, operate2}
use Rattle.lio_operators.specs.Laws.{IsUnthrown, IsPublic, items_in, IsPartOf, IsListOf, IsMadeOf}
use Rattle.lio_operators.proofs.OperatorLemmas.{one_gives_simple, two_give_parts}
use Rattle.std.specs.List.{Contains}
use Rattle.lio_values.specs.Measures.{is_pure}
use Rattle.lio_syntax.specs.declared.binding.Binding.{Binding}
use Rattle.std.specs.declared.cmp.Ordering.{Ordering}
use Rattle.std.specs.declared.cmp.Ordering.TheVariants.{Less, Equal, Greater}
use Rattle.lio_syntax.specs.Environment.{Environment, bind_before, bind, bind_all}
use Rattle.lio_syntax.specs.Items.{Item, Do, Access}
use Rattle.lio_calculus.specs.Operands.{bound, all_bound, Labelled, sealed_of}
use Rattle.lio_calculus.specs.Task.{TaskState}
use Rattle.lio_calculus.specs.Going.{Onward, Bind, Seal, Call, Return, Leave, Unlabel, Release, Expose, Throw, released}
use Rattle.lio_calculus.specs.Plan.{Program, Plan, Over, Own, Visit, fault_at, plan}
use Rattle.lio_calculus.specs.Sound.{EachBound, EachInItem, EachInTask, statement_says, ItemSays}
use Rattle.lio_calculus.proofs.SoundLemmas.{bound-each}
use Rattle.lio_calculus.proofs.Outcome.{Puts, Test, On, Between, Using, Free, verdict_of, Asks, Outcome}
use Rattle.lio_calculus.proofs.Outcome as out
use Rattle.lio_calculus.proofs.PlanCases.{ItemsCase, Ends, Does, IsMistyped, Visits, Leaves, Fails, plan-by}
use Rattle.lio_calculus.proofs.Closed.{IsClosed}

-- a property of each value in the ways of going on, in an act, in a plan; what is released or exposed counts as sealed under the label that it comes to
abbrev pub EachInOnward : (Value → Type 0) → Act → Onward → Type 0
EachInOnward P asked (Bind name value) = P value
EachInOnward P asked (Seal name label plain) = P (Bare plain) × IsTrue (is_pure plain)
EachInOnward P asked (Call name environment body) = EachBound P environment
EachInOnward P asked (Return value) = P value
EachInOnward P asked (Leave caller name) = EachBound P caller
EachInOnward P asked (Unlabel name label source content) = P (Sealed source content)
EachInOnward P asked (Release name label) = P (Sealed label (released asked))
EachInOnward P asked (Expose name label) = P (Sealed label (released asked))
EachInOnward P asked (Throw fault) = P (Sealed fault.at (Faulted fault))
EachInOnward P asked onward = Unit {0}

abbrev pub EachInAct : (Value → Type 0) → Act → Type 0
EachInAct P (act.Write value) = P value
EachInAct P (act.Put value) = P value
EachInAct P (act.NewRef label value) = P value
EachInAct P (act.NewVar label None) = Unit {0}
EachInAct P (act.NewVar label (Some value)) = P value
EachInAct P (act.Fork birth) = All P birth.args
EachInAct P (act.Spawn birth) = All P birth.args
EachInAct P (act.Ended content) = (label : Label) → P (Sealed label content)
EachInAct P asked = Unit {0}

abbrev pub EachInPlan : (Value → Type 0) → Plan → Type 0
EachInPlan P Over = Unit {0}
EachInPlan P (Own asked reply onward) = EachInAct P asked × EachInOnward P asked onward
EachInPlan P (Visit asked target onward) = EachInAct P asked × EachInOnward P asked onward

-- bindings
pub bind-each : (P : Value → Type 0) (environment : Environment) (name : List ℕ) (value : Value) → EachBound P environment → P value → EachBound P (bind environment name value)
unfolding bind
bind-each P [] name value each p = All-cons (λ (b : Binding). P b.value) _ [] p (All-nil _)
bind-each P (first ∷ rest) name value each p =
    before _ (bind-each P rest name value (All-tail (λ (b : Binding). P b.value) first rest each) p)
  where
    new : Binding
    new = record { name = name; value = value }

    before : (order : Ordering) → EachBound P (bind rest name value) → EachBound P (bind_before order new first rest (bind rest name value))
    before Less behind = All-cons (λ (b : Binding). P b.value) new (first ∷ rest) p each
    before Equal behind = All-cons (λ (b : Binding). P b.value) new rest p (All-tail (λ (b : Binding). P b.value) first rest each)
    before Greater behind = All-cons (λ (b : Binding). P b.value) first (bind rest name value) (All-head (λ (b : Binding). P b.value) first rest each) behind

pub bind_all-each : (P : Value → Type 0) (environment : Environment) (names : List (List ℕ)) (vs : List Value) → EachBound P environment → All P vs → EachBound P (bind_all environment names vs)
unfolding bind_all
bind_all-each P environment [] vs each p = each
bind_all-each P environment (name ∷ names) [] each p = each
bind_all-each P environment (name ∷ names) (v ∷ vs) each p = bind_all-each P (bind environment name v) names vs (bind-each P environment name v each (All-head P v vs p)) (All-tail P v vs p)

-- looked-up values, where what operands with a property stand for has it
all_bound-each : (P : Value → Type 0) (Q : Operand → Type 0) (environment : Environment) → ((a : Operand) (value : Value) → Q a → bound environment a ≡ Some value → P value)
    → (operands : List Operand) (vs : List Value) → All Q operands → all_bound environment operands ≡ Some vs → All P vs
unfolding all_bound
all_bound-each P Q environment looked [] vs said e = let none : List Value = [] in let is : none ≡ vs = cc in subst (All P) is (All-nil P)
all_bound-each P Q environment looked (operand ∷ operands) vs said e =
    by (bound environment operand) (all_bound environment operands) e (λ v f. looked operand v (All-head Q operand operands said) f) (λ ws f. all_bound-each P Q environment looked operands ws (All-tail Q operand operands said) f)
  where
    by : (first : Option Value) (others : Option (List Value)) → option_and_then (λ value. option_map (λ values. value ∷ values) others) first ≡ Some vs
        → ((v : Value) → first ≡ Some v → P v) → ((ws : List Value) → others ≡ Some ws → All P ws) → All P vs
    by None others f here there = absurd (cc)
    by (Some v) None f here there = absurd (cc)
    by (Some v) (Some ws) f here there = let all : List Value = v ∷ ws in let is : all ≡ vs = cc in subst (All P) is (All-cons P v ws (here v refl) (there ws refl))

sealed-each : (P : Value → Type 0) (v : Option Value) (s : Labelled) → option_and_then sealed_of v ≡ Some s → ((value : Value) → v ≡ Some value → P value) → P (Sealed s.label s.content)
sealed-each P None s e each = absurd (cc)
sealed-each P (Some (Bare plain)) s e each = absurd (cc)
sealed-each P (Some (Sealed label content)) s e each = let made : Labelled = record { label = label; content = content } in let is : made ≡ s = cc in subst (λ (l : Labelled). P (Sealed l.label l.content)) is (each (Sealed label content) refl)

-- a guard's fault is none that a script throws
fails-unthrown : (kind : FaultKind) → FailsFor kind → IsUnthrown kind
fails-unthrown (User plain) fails = absurd fails
fails-unthrown kind fails = tt

expose-unthrown : (power : Priv) (kind : FaultKind) → FailsToExpose power kind → IsUnthrown kind
expose-unthrown power (User plain) fails = absurd fails
expose-unthrown power kind fails = tt

-- a test's fault is none that a script throws
test-unthrown : (task : TaskState) (test : Test) (kind : FaultKind) → verdict_of task test ≡ No kind → IsUnthrown kind
test-unthrown task (On o target) kind e = fails-unthrown kind (refused_where_test_fails o task.label task.clearance target kind e)
test-unthrown task (Between source target power) kind e = fails-unthrown kind (release_refused_where_test_fails task.label task.clearance source target power kind e)
test-unthrown task (Using source power) kind e = expose-unthrown power kind (expose_refused_where_test_fails task.label task.clearance source power kind e)
test-unthrown task Free kind e = absurd (cc)

-- what a list contains has what each of its values has
contained : (P : Value → Type 0) (values : List Value) (value : Value) → All P values → Contains values value → P value
contained P values value all within = subst P within.2 (all within.0 value within.1)

made-each : (P : Value → Type 0) → IsClosed P → (made : Value) (given : Result Value FaultKind) → given ≡ Ok made → IsPublic given → P made
made-each P closed made (Ok (Bare plain)) e simple = let value : Value = Bare plain in let is : value ≡ made = cc in subst P is (closed.simple plain simple)
made-each P closed made (Ok (Sealed label content)) e simple = absurd simple
made-each P closed made (Err kind) e simple = absurd (cc)

-- what is made of two values
two-made-each : (P : Value → Type 0) → IsClosed P → (left right made : Value) (given : Result Value FaultKind) → P left → P right → given ≡ Ok made → IsMadeOf left right given → P made
two-made-each P closed left right made (Err kind) p q e parts = absurd (cc)
two-made-each P closed left right made (Ok value) p q e (inl public) = made-each P closed made (Ok value) e public
two-made-each P closed left right made (Ok value) p q e (inr (inl within)) =
    let is : value ≡ made = cc in subst P is (contained P (items_in left) value (items-each left p) within)
  where
    items-each : (v : Value) → P v → All P (items_in v)
    items-each (Bare (Items items)) each = closed.items items each
    items-each v each = All-nil P
two-made-each P closed left right made (Ok value) p q e (inr (inr list)) = let is : value ≡ made = cc in subst P is (by value list)
  where
    items-each : (v : Value) → P v → All P (items_in v)
    items-each (Bare (Items items)) each = closed.items items each
    items-each v each = All-nil P

    part : (v : Value) → IsPartOf left right v → P v
    part v (inl within) = contained P (items_in left) v (items-each left p) within
    part v (inr (inl within)) = contained P (items_in right) v (items-each right q) within
    part v (inr (inr same)) = subst P (sym same) q

    by : (v : Value) → IsListOf left right v → P v
    by (Bare (Items items)) parts = closed.list items (λ k d within. part _ (parts k d within))
    by v none = absurd none

two-failed-unthrown : (left right : Value) (kind : FaultKind) (given : Result Value FaultKind) → given ≡ Err kind → IsMadeOf left right given → IsUnthrown kind
two-failed-unthrown left right kind (Ok value) e parts = absurd (cc)
two-failed-unthrown left right kind (Err k) e parts = let is : k ≡ kind = cc in subst IsUnthrown is parts

failed-unthrown : (kind : FaultKind) (given : Result Value FaultKind) → given ≡ Err kind → IsPublic given → IsUnthrown kind
failed-unthrown kind (Ok value) e public = absurd (cc)
failed-unthrown kind (Err k) e public = let is : k ≡ kind = cc in subst IsUnthrown is public

-- a property of each operand of a statement that opens no block, or of an access, in front
abbrev pub FrontHas : (Operand → Type 0) → List Item → Type 0
FrontHas Q (Do (statement.Do simple) ∷ items) = All Q (simple_operands simple)
FrontHas Q (Access simple ∷ items) = All Q (simple_operands simple)
FrontHas Q items = Unit {0}

-- what a task looks up, where what operands with a property stand for has it, and what it throws
module _ (P : Value → Type 0) (closed : IsClosed P) (Q : Operand → Type 0) (task : TaskState) (looked : (a : Operand) (value : Value) → Q a → bound task.environment a ≡ Some value → P value) where
  first-said : (a : Operand) (operands : List Operand) → All Q (a ∷ operands) → Q a
  first-said = All-head Q

  rest-said : (a : Operand) (operands : List Operand) → All Q (a ∷ operands) → All Q operands
  rest-said = All-tail Q

  second-said : (a b : Operand) (operands : List Operand) → All Q (a ∷ b ∷ operands) → Q b
  second-said a b operands said = first-said b operands (rest-said a (b ∷ operands) said)

  value-at : {value : Value} (a : Operand) → Q a → bound task.environment a ≡ Some value → P value
  value-at a said e = looked a _ said e

  values-at : {vs : List Value} (operands : List Operand) → All Q operands → all_bound task.environment operands ≡ Some vs → All P vs
  values-at operands said e = all_bound-each P Q task.environment looked operands _ said e

  sealed-at : (a : Operand) (s : Labelled) → Q a → option_and_then sealed_of (bound task.environment a) ≡ Some s → P (Sealed s.label s.content)
  sealed-at a s said e = sealed-each P (bound task.environment a) s e (λ value f. value-at a said f)

  thrown : (kind : FaultKind) → IsUnthrown kind → P (Sealed task.label (Faulted (fault_at task kind)))
  thrown kind unthrown = closed.unthrown task.label (fault_at task kind) unthrown

  asks-each : {program : Program} {s : Simple} {asked : Act} {test : Test} → All Q (simple_operands s) → Asks program task s asked test → EachInAct P asked
  asks-each said (out.Referring {l = l} {a = a} e f) = value-at a (second-said l a [] said) f
  asks-each said (out.Filling {l = l} {a = a} e f) = value-at a (second-said l a [] said) f
  asks-each said (out.Writing {r = r} {a = a} e f) = value-at a (second-said r a [] said) f
  asks-each said (out.Forking {l = l} {t = t} {n = n} {arguments = arguments} e f) =
      values-at arguments (rest-said n arguments (rest-said t (n ∷ arguments) (rest-said l (t ∷ n ∷ arguments) said))) f
  asks-each said (out.Spawning {t = t} {n = n} {arguments = arguments} e) =
      values-at arguments (rest-said n arguments (rest-said t (n ∷ arguments) said)) e
  asks-each said asks = tt

  outcome-each : {s : Simple} {p : Plan} (program : Program) → All Q (simple_operands s) → Outcome program task s p → EachInPlan P p
  outcome-each program said out.Mistyped = (tt, thrown BadType tt)
  outcome-each program said (out.Refused {test = test} {kind = kind} asks e) = (asks-each said asks, thrown kind (test-unthrown task test kind e))
  outcome-each program said (out.LacksCells asks) = (asks-each said asks, closed.unthrown task.label _ tt)
  outcome-each program said (out.LacksTurns asks) = (asks-each said asks, closed.unthrown task.label _ tt)
  outcome-each program said (out.Binds {a = a} e) = (tt, value-at a (first-said a [] said) e)
  outcome-each program said (out.Computes1 {o = o} {value = value} {made = made} e f) = (tt, made-each P closed made (operate1 program.longest o value) f (one_gives_simple program.longest o value))
  outcome-each program said (out.Fails1 {o = o} {value = value} {kind = kind} e f) =
      (tt, thrown kind (failed-unthrown kind (operate1 program.longest o value) f (one_gives_simple program.longest o value)))
  outcome-each program said (out.Computes2 {a = a} {o = o} {b = b} {left = left} {right = right} {made = made} e f g) = (tt, two-made-each P closed left right made (operate2 program.longest o left right) (value-at a (first-said a (b ∷ []) said) e) (value-at b (second-said a b [] said) f) g (two_give_parts program.longest o left right))
  outcome-each program said (out.Fails2 {o = o} {left = left} {right = right} {kind = kind} e f g) =
      (tt, thrown kind (two-failed-unthrown left right kind (operate2 program.longest o left right) g (two_give_parts program.longest o left right)))
  outcome-each program said (out.Calls {arguments = arguments} {procedure = procedure} e f g) =
      (tt, bind_all-each P [] procedure.parameters _ (All-nil _) (values-at arguments said e))
  outcome-each program said out.IsTooDeep = (tt, thrown Depth tt)
  outcome-each program said (out.Returns {a = a} e) = (tt, value-at a (first-said a [] said) e)
  outcome-each program said (out.Finishes {a = a} {plain = plain} e pure) = (λ label. closed.seal label plain pure (value-at a (first-said a [] said) e), tt)
  outcome-each program said out.Stops = (λ label. closed.seal label unit refl (closed.said unit refl), tt)
  outcome-each program said (out.Throws {a = a} {plain = plain} e pure) = (tt, closed.throws task.label task.label plain pure (value-at a (first-said a [] said) e))
  outcome-each program said (out.Seals {l = l} {a = a} e f pure) = (tt, (value-at a (second-said l a [] said) f, pure))
  outcome-each program said (out.Unlabels {a = a} {sealed = s} e f) = (tt, sealed-at a s (first-said a [] said) e)
  outcome-each program said (out.Releases {a = a} {l = l} {p = p} {sealed = s} {target = target} asks e f) =
      (tt, closed.again s.label target s.content (sealed-at a s (first-said a (l ∷ p ∷ []) said) e))
  outcome-each program said (out.Exposes {a = a} {p = p} {sealed = s} {current = current} asks e f) =
      (tt, closed.again s.label current s.content (sealed-at a s (first-said a (p ∷ []) said) e))
  outcome-each program said (out.MakesReference asks e room) = (asks-each said asks, tt)
  outcome-each program said (out.MakesVariable asks e room) = (asks-each said asks, tt)
  outcome-each program said (out.Writes {r = r} {a = a} e f g) = (value-at a (second-said r a [] said) f, tt)
  outcome-each program said (out.MakesChild asks e f room enough) = (asks-each said asks, tt)
  outcome-each program said (out.MakesOrphan asks e room enough) = (asks-each said asks, tt)
  outcome-each program said o = (tt, tt)

  items-each : {items : List Item} {p : Plan} (program : Program) → All (EachInItem P) items → FrontHas Q items → ItemsCase program task items p → EachInPlan P p
  items-each program all said Ends = (λ label. closed.seal label unit refl (closed.said unit refl), tt)
  items-each program all said (Does o) = outcome-each program said o
  items-each program all said IsMistyped = (tt, thrown BadType tt)
  items-each program all said (Visits (Puts {v = v} {a = a} e f)) = (value-at a (second-said v a [] said) f, tt)
  items-each program all said (Visits r) = (tt, tt)
  items-each program all said Leaves = (tt, All-head (EachInItem P) _ _ all)
  items-each program all said (Fails {fault = fault}) = (λ label. closed.again fault.at label (Faulted fault) (All-head (EachInItem P) _ _ all), tt)
  items-each program all said o = (tt, tt)

-- the plan of a task, where what the operands in front stand for has it
pub plan-each-looked : (P : Value → Type 0) → IsClosed P → (Q : Operand → Type 0) (program : Program) (task : TaskState) → ((a : Operand) (value : Value) → Q a → bound task.environment a ≡ Some value → P value)
    → All (EachInItem P) task.items → FrontHas Q task.items → EachInPlan P (plan program task)
plan-each-looked P closed Q program task looked all said =
    plan-by (EachInPlan P) program task tt (λ label. closed.unthrown label (fault_at task NoTurns) tt, tt) (λ p going o. items-each P closed Q task looked program all said o)

-- the plan of a task whose values have it, and whose literals are said
IsSaid : Operand → Type 0
IsSaid a = IsTrue (is_said a)

all-said : (operands : List Operand) → IsTrue (list_all is_said operands) → All IsSaid operands
unfolding IsSaid
all-said [] said = All-nil IsSaid
all-said (a ∷ operands) said = let parts = and_parts (is_said a) (list_all is_said operands) said in All-cons IsSaid a operands parts.0 (all-said operands parts.1)

front-said : (items : List Item) → All ItemSays items → FrontHas IsSaid items
unfolding statement_says
front-said (Do (statement.Do simple) ∷ items) said = all-said (simple_operands simple) (All-head ItemSays (Do (statement.Do simple)) items said)
front-said (Access simple ∷ items) said = all-said (simple_operands simple) (All-head ItemSays (Access simple) items said)
front-said items said = tt

pub plan-each : (P : Value → Type 0) → IsClosed P → (program : Program) (task : TaskState) → EachInTask P task → All ItemSays task.items → EachInPlan P (plan program task)
unfolding IsSaid
plan-each P closed program task each said =
    plan-each-looked P closed IsSaid program task (λ a value is e. bound-each P task.environment a value closed.said each.environment is e) each.items (front-said task.items said)
