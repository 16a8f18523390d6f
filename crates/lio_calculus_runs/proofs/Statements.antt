-- Each principal in the plan of a task has a name, where each in the task and in its program has one.
use Rattle.std.proofs.Common.{◌≡◌, refl, subst, ℕ, ◌-◌, List, [], ◌∷◌, All, Option, Some}
use Rattle.std.specs.Prelude.{option_and_then}
use Rattle.std.proofs.lemmas.List.Elements.{All-nil, All-head, All-tail}
use Rattle.lio_labels.specs.declared.label.Label.{Label}
use Rattle.lio_labels.specs.LabelPrint.{AreNamed}
use Rattle.lio_values.specs.declared.fault.FaultKind.{FaultKind}
use Rattle.lio_values.specs.declared.fault.FaultKind.TheVariants.{BadType, NoCells, ChildTurns, Depth, User}
use Rattle.lio_values.specs.declared.value.Handle.{Handle}
use Rattle.lio_values.specs.declared.value.Value.{Value}
use Rattle.lio_values.specs.declared.act.Act.{Act}
use Rattle.lio_values.specs.declared.act.Act.TheVariants as act
use Rattle.lio_values.specs.declared.act.Op.{Op}
use Rattle.lio_values.specs.declared.act.Op.TheVariants as op
use Rattle.lio_values.specs.PlainText.{IsPowerNamed}
use Rattle.lio_values.specs.Named.{IsKindNamed, IsValueNamed}
use Rattle.lio_events.specs.Printable.{IsActNamed, IsRaising, IsRaiseOf}
use Rattle.lio_syntax_lines.specs.declared.line.Operand.{Operand}
use Rattle.lio_syntax_lines.specs.declared.line.Simple.{Simple}
use Rattle.lio_syntax.specs.Statements.{Procedure}
use Rattle.lio_guards.specs.declared.verdict.Verdict.{Verdict}
use Rattle.lio_guards.specs.declared.verdict.Verdict.TheVariants.{Go, No}
use Rattle.lio_cells.specs.State.{Kind}
use Rattle.lio_syntax.specs.Items.{Item}
use Rattle.lio_calculus.specs.Operands.{bound, Labelled, sealed_of, seen_as, label_of, power_of, reference_of, variable_of, result_of, channel_of}
use Rattle.lio_calculus.specs.Task.{TaskState}
use Rattle.lio_calculus.specs.Going.{Onward}
use Rattle.lio_calculus.specs.Plan.{Program, Plan, refused, procedure_at, plan}
use Rattle.lio_calculus.specs.Step.{body_of}
use Rattle.lio_calculus.proofs.Outcome.{Reaches, Reads, Takes, Puts, Waits, Test, On, Between, Using, Free, verdict_of, Asks, Outcome}
use Rattle.lio_calculus.proofs.Outcome as out
use Rattle.lio_calculus.proofs.PlanCases.{ItemsCase, Does, IsMistyped, Enters, Chooses, ChoosesOther, Repeats, Tries, Visits, Leaves, Fails, plan-by}
use Rattle.lio_calculus.proofs.PlanEach.{bind_all-each}
use Rattle.lio_calculus_runs.specs.Script.{IsOperandNamed, IsSimpleNamed, IsStatementNamed, IsBlockNamed, IsScriptNamed}
use Rattle.lio_calculus_runs.specs.Configuration.{IsItemNamed, IsTaskNamed}
use Rattle.lio_calculus_runs.proofs.Operators.{IsGivenNamed, one_named, two_named}
use Rattle.lio_calculus_runs.proofs.Guards.{IsVerdictNamed, guarded_named, relabel_named, expose_named, exposed_to_named}
use Rattle.lio_calculus_runs.proofs.Lookups.{IsLabelledNamed, IsHandleNamed, bound_named, all_bound_named, sealed_named, seen_named, label_shown, power_shown, reference_shown, variable_shown, result_shown, channel_shown}
use Rattle.lio_calculus_runs.proofs.NamedPlans.{IsOnwardNamed, IsPlanNamed, found_named}

-- the operands of a statement
first : (names : List (List ℕ)) (a : Operand) (operands : List Operand) → All (IsOperandNamed names) (a ∷ operands) → IsOperandNamed names a
first names = All-head (IsOperandNamed names)

rest : (names : List (List ℕ)) (a : Operand) (operands : List Operand) → All (IsOperandNamed names) (a ∷ operands) → All (IsOperandNamed names) operands
rest names = All-tail (IsOperandNamed names)

second : (names : List (List ℕ)) (a b : Operand) (operands : List Operand) → All (IsOperandNamed names) (a ∷ b ∷ operands) → IsOperandNamed names b
second names a b operands said = first names b operands (rest names a (b ∷ operands) said)

-- each principal in a test has a name
abbrev IsTestNamed : List (List ℕ) → Test → Type 0
IsTestNamed names (On o target) = AreNamed names target
IsTestNamed names (Between source target power) = AreNamed names source × AreNamed names target × IsPowerNamed names power
IsTestNamed names (Using source power) = AreNamed names source × IsPowerNamed names power
IsTestNamed names Free = Unit {0}

-- what a task of these names looks up
module _ (names : List (List ℕ)) (task : TaskState) (t : IsTaskNamed names task) where
  value_at : (a : Operand) (value : Value) → IsOperandNamed names a → bound task.environment a ≡ Some value → IsValueNamed names value
  value_at a value said e = bound_named names task.environment a value t.environment said e

  label_at : (l : Operand) (label : Label) → IsOperandNamed names l → seen_as label_of task.environment l ≡ Some label → AreNamed names label
  label_at l label said e = seen_named names label_of (AreNamed names) (label_shown names) task.environment l label t.environment said e

  sealed_at : (a : Operand) (sealed : Labelled) → IsOperandNamed names a → option_and_then sealed_of (bound task.environment a) ≡ Some sealed → IsLabelledNamed names sealed
  sealed_at a sealed said e = sealed_named names (bound task.environment a) sealed e (λ value f. value_at a value said f)

  -- the verdict of a test
  verdict_named : (test : Test) (verdict : Verdict) → IsTestNamed names test → verdict_of task test ≡ verdict → IsVerdictNamed names verdict
  verdict_named test verdict n e = subst (IsVerdictNamed names) e (by test n)
    where
      by : (u : Test) → IsTestNamed names u → IsVerdictNamed names (verdict_of task u)
      by (On o target) m = guarded_named names o task.label task.clearance target t.label t.clearance m
      by (Between source target power) m = relabel_named names task.label task.clearance source target power t.label t.clearance m.0 m.1 m.2
      by (Using source power) m = expose_named names task.label task.clearance source power t.label t.clearance m.0 m.1
      by Free m = t.label

  refused_named : (asked : Act) (kind : FaultKind) → IsActNamed names asked → IsRaiseOf asked → IsKindNamed names kind → IsPlanNamed names (refused task asked kind)
  refused_named asked kind a r k = (a, r, (k, t.label), (k, t.label))

  -- a statement with an access
  reach_named : {s : Simple} {o : Op} {asked : Act} {kind : Kind} {handle : Handle} {onward : Onward} → IsSimpleNamed names s → Reaches task s o asked kind handle onward
      → IsHandleNamed names handle × IsRaising o × IsActNamed names asked × IsRaiseOf asked × IsOnwardNamed names onward
  reach_named said (Reads {r = r} e) = (seen_named names reference_of (IsHandleNamed names) (reference_shown names) task.environment r _ t.environment (first names r [] said) e, tt, tt, tt, tt)
  reach_named said (Takes {v = v} e) = (seen_named names variable_of (IsHandleNamed names) (variable_shown names) task.environment v _ t.environment (first names v [] said) e, tt, tt, tt, tt)
  reach_named said (Puts {v = v} {a = a} e f) =
      (seen_named names variable_of (IsHandleNamed names) (variable_shown names) task.environment v _ t.environment (first names v (a ∷ []) said) e, tt, value_at a _ (second names v a [] said) f, tt, tt)
  reach_named said (Waits {r = r} e) = (seen_named names result_of (IsHandleNamed names) (result_shown names) task.environment r _ t.environment (first names r [] said) e, tt, tt, tt, tt)

  -- what a statement asks for
  asks_named : {program : Program} {s : Simple} {asked : Act} {test : Test} → IsSimpleNamed names s → Asks program task s asked test → IsActNamed names asked × IsRaiseOf asked × IsTestNamed names test
  asks_named said (out.Sealing {l = l} {a = a} e) = let n = label_at l _ (first names l (a ∷ []) said) e in (n, tt, n)
  asks_named said (out.Unlabelling {a = a} e) = let s = sealed_at a _ (first names a [] said) e in (s.0, tt, s.0)
  asks_named said (out.Tainting {l = l} e) = let n = label_at l _ (first names l [] said) e in (n, tt, n)
  asks_named said (out.Lowering {l = l} e) = let n = label_at l _ (first names l [] said) e in (n, tt, n)
  asks_named said (out.Releasing {a = a} {l = l} {p = p} e f g) =
      let s = sealed_at a _ (first names a (l ∷ p ∷ []) said) e in
      let n = label_at l _ (second names a l (p ∷ []) said) f in
      let w = seen_named names power_of (IsPowerNamed names) (power_shown names) task.environment p _ t.environment (second names l p [] (rest names a (l ∷ p ∷ []) said)) g in
      ((s.0, n, w, tt), tt, (s.0, n, w))
  asks_named said (out.Exposing {a = a} {p = p} {sealed = sealed} {power = power} e f) =
      let s = sealed_at a sealed (first names a (p ∷ []) said) e in
      let w = seen_named names power_of (IsPowerNamed names) (power_shown names) task.environment p power t.environment (second names a p [] said) f in
      let v = verdict_named (Using sealed.label power) (verdict_of task (Using sealed.label power)) (s.0, w) refl in
      ((s.0, exposed_to_named names sealed.label (verdict_of task (Using sealed.label power)) s.0 v, w, tt), tt, (s.0, w))
  asks_named said (out.Referring {l = l} {a = a} e f) = let n = label_at l _ (first names l (a ∷ []) said) e in ((n, value_at a _ (second names l a [] said) f), tt, n)
  asks_named said (out.Holding {l = l} e) = let n = label_at l _ (first names l [] said) e in ((n, tt), tt, n)
  asks_named said (out.Filling {l = l} {a = a} e f) = let n = label_at l _ (first names l (a ∷ []) said) e in ((n, value_at a _ (second names l a [] said) f), tt, n)
  asks_named said (out.Raising r) = let n = reach_named said r in (n.0, n.1, n.0)
  asks_named said (out.Writing {r = r} {a = a} e f) =
      (value_at a _ (second names r a [] said) f, tt, seen_named names reference_of (IsHandleNamed names) (reference_shown names) task.environment r _ t.environment (first names r (a ∷ []) said) e)
  asks_named said (out.Sending {c = c} {a = a} e f) =
      (tt, tt, seen_named names channel_of (IsHandleNamed names) (channel_shown names) task.environment c _ t.environment (first names c (a ∷ []) said) e)
  asks_named said (out.Forking {l = l} {t = turns} {n = cells} {arguments = arguments} e f) =
      let n = label_at l _ (first names l (turns ∷ cells ∷ arguments) said) e in
      let vs = all_bound_named names task.environment arguments _ t.environment (rest names cells arguments (rest names turns (cells ∷ arguments) (rest names l (turns ∷ cells ∷ arguments) said))) f in
      ((n, n, vs), tt, n)
  asks_named said (out.Spawning {t = turns} {n = cells} {arguments = arguments} e) =
      let vs = all_bound_named names task.environment arguments _ t.environment (rest names cells arguments (rest names turns (cells ∷ arguments) said)) e in ((t.clearance, t.clearance, vs), tt, tt)

  -- the cases of a plan
  outcome_named : {s : Simple} {p : Plan} (program : Program) → IsScriptNamed names program.procedures → IsSimpleNamed names s → Outcome program task s p → IsPlanNamed names p
  outcome_named program script said out.Mistyped = refused_named act.Step BadType tt tt tt
  outcome_named program script said (out.Refused {test = test} {kind = kind} asks e) = let n = asks_named said asks in refused_named _ kind n.0 n.1 (verdict_named test (No kind) n.2 e)
  outcome_named program script said (out.LacksCells {count = count} asks) = let n = asks_named said asks in refused_named _ (NoCells count task.cells) n.0 n.1 tt
  outcome_named program script said (out.LacksTurns {turns = turns} asks) = let n = asks_named said asks in refused_named _ (ChildTurns turns (task.turns - 1)) n.0 n.1 tt
  outcome_named program script said (out.Binds {a = a} e) = (tt, tt, tt, value_at a _ (first names a [] said) e)
  outcome_named program script said (out.Computes1 {o = o} {a = a} {value = value} e f) =
      (tt, tt, tt, subst (IsGivenNamed names) f (one_named names program.longest o value (value_at a value (first names a [] said) e)))
  outcome_named program script said (out.Fails1 {o = o} {a = a} {value = value} {kind = kind} e f) =
      refused_named act.Step kind tt tt (subst (IsGivenNamed names) f (one_named names program.longest o value (value_at a value (first names a [] said) e)))
  outcome_named program script said (out.Computes2 {a = a} {o = o} {b = b} {left = left} {right = right} e f g) =
      (tt, tt, tt, subst (IsGivenNamed names) g (two_named names program.longest o left right (value_at a left (first names a (b ∷ []) said) e) (value_at b right (second names a b [] said) f)))
  outcome_named program script said (out.Fails2 {a = a} {o = o} {b = b} {left = left} {right = right} {kind = kind} e f g) =
      refused_named act.Step kind tt tt
      (subst (IsGivenNamed names) g (two_named names program.longest o left right (value_at a left (first names a (b ∷ []) said) e) (value_at b right (second names a b [] said) f)))
  outcome_named program script said (out.Calls {p = name} {arguments = arguments} {procedure = procedure} e f g) =
      let body = subst (λ (found : Option Procedure). IsBlockNamed names (body_of found)) f (found_named names program.procedures (procedure_at program name) script) in
      (tt, tt, tt, (bind_all-each (IsValueNamed names) [] procedure.parameters _ (All-nil _) (all_bound_named names task.environment arguments _ t.environment said e), body))
  outcome_named program script said out.IsTooDeep = refused_named act.Step Depth tt tt tt
  outcome_named program script said (out.Returns {a = a} e) = (tt, tt, tt, value_at a _ (first names a [] said) e)
  outcome_named program script said (out.Finishes {a = a} e pure) = (value_at a _ (first names a [] said) e, tt, tt, tt)
  outcome_named program script said out.Stops = (tt, tt, tt, tt)
  outcome_named program script said (out.Throws {a = a} {plain = plain} e pure) = refused_named act.Step (User plain) tt tt (value_at a _ (first names a [] said) e)
  outcome_named program script said (out.Seals {l = l} {a = a} e f pure) = let n = label_at l _ (first names l (a ∷ []) said) e in (n, tt, tt, (n, value_at a _ (second names l a [] said) f))
  outcome_named program script said (out.Unlabels {a = a} {sealed = s} {current = current} e f) =
      let n = sealed_at a s (first names a [] said) e in (n.0, tt, tt, (verdict_named (On op.Unlabel s.label) (Go current) n.0 f, n.1))
  outcome_named program script said (out.Taints {l = l} {label = label} {current = current} e f) =
      let n = label_at l label (first names l [] said) e in (n, tt, tt, verdict_named (On op.Taint label) (Go current) n f)
  outcome_named program script said (out.Lowers {l = l} {label = label} e f) = let n = label_at l label (first names l [] said) e in (n, tt, tt, n)
  outcome_named program script said (out.Releases {a = a} {l = l} {p = p} asks e f) =
      let n = asks_named said asks in ((n.0.0, n.0.1, n.0.2, (sealed_at a _ (first names a (l ∷ p ∷ []) said) e).1), tt, tt, n.0.1)
  outcome_named program script said (out.Exposes {a = a} {p = p} {sealed = s} {power = power} {current = current} asks e f) =
      let n = asks_named said asks in
      let current_named = verdict_named (Using s.label power) (Go current) n.2 f in
      ((n.0.0, current_named, n.0.2, (sealed_at a s (first names a (p ∷ []) said) e).1), tt, tt, current_named)
  outcome_named program script said (out.MakesReference asks e room) = let n = asks_named said asks in (n.0, tt, n.0.0)
  outcome_named program script said (out.MakesVariable asks e room) = let n = asks_named said asks in (n.0, tt, n.0.0)
  outcome_named program script said (out.IsRaised {o = o} {handle = handle} {current = current} r e) =
      let n = reach_named said r in (n.0, n.1, tt, (verdict_named (On o handle.label) (Go current) n.0 e, said))
  outcome_named program script said (out.Writes {r = r} {a = a} e f g) = (value_at a _ (second names r a [] said) f, tt, tt)
  outcome_named program script said (out.Sends e f g) = (tt, tt, tt)
  outcome_named program script said (out.MakesChild asks e f room enough) = let n = asks_named said asks in (n.0, tt, n.0.0)
  outcome_named program script said (out.MakesOrphan asks e room enough) = let n = asks_named said asks in (n.0, tt, tt)

  items_named : {items : List Item} {p : Plan} (program : Program) → IsScriptNamed names program.procedures → All (IsItemNamed names) items → ItemsCase program task items p → IsPlanNamed names p
  unfolding IsStatementNamed IsBlockNamed
  items_named program script all (Does o) = outcome_named program script (All-head (IsItemNamed names) _ _ all) o
  items_named program script all IsMistyped = refused_named act.Step BadType tt tt tt
  items_named program script all Enters = (tt, tt, tt, (All-head (IsItemNamed names) _ _ all).1)
  items_named program script all Chooses = (tt, tt, tt, (All-head (IsItemNamed names) _ _ all).1)
  items_named program script all ChoosesOther = (tt, tt, tt, (All-head (IsItemNamed names) _ _ all).2)
  items_named program script all Repeats = (tt, tt, tt, All-head (IsItemNamed names) _ _ all)
  items_named program script all Tries = (tt, tt, tt, All-head (IsItemNamed names) _ _ all)
  items_named program script all (Visits r) = let n = reach_named (All-head (IsItemNamed names) _ _ all) r in (n.2, n.3, n.4)
  items_named program script all Leaves = (tt, tt, tt, All-head (IsItemNamed names) _ _ all)
  items_named program script all Fails = (All-head (IsItemNamed names) _ _ all, tt, tt, tt)
  items_named program script all o = (tt, tt, tt, tt)

-- a task
pub plan_named : (names : List (List ℕ)) (program : Program) (task : TaskState) → IsScriptNamed names program.procedures → IsTaskNamed names task → IsPlanNamed names (plan program task)
plan_named names program task script t = plan-by (IsPlanNamed names) program task tt ((tt, t.label), tt, tt, tt) (λ p going o. items_named names task t program script t.items o)
