-- What a plan does to a task's labels, numbers, blocks and calls.
use Rattle.std.proofs.Common.{◌≡◌, refl, sym, ap, ℕ, ◌+◌, ◌<◌, ◌≤◌, Bool, true, false, ◌&&◌, IsTrue, List, All, Option, Some, None, is_some}
use Rattle.std.specs.Prelude.{option_and_then, slice_get}
use Rattle.std.proofs.lemmas.Bool.{and_parts}
use Rattle.std.proofs.lemmas.List.Elements.{All-head}
use Rattle.lio_labels.specs.declared.label.Label.{Label}
use Rattle.lio_labels.specs.Flow.{flows}
use Rattle.lio_labels.proofs.FlowLemmas.{flow_is_reflexive}
use Rattle.lio_values.specs.declared.value.Handle.{Handle}
use Rattle.lio_values.specs.declared.act.Act.{Act}
use Rattle.lio_values.specs.declared.act.Act.TheVariants as act
use Rattle.lio_values.specs.declared.act.Birth.{Birth}
use Rattle.lio_values.specs.declared.act.Op.{Op}
use Rattle.lio_values.specs.declared.act.Op.TheVariants as op
use Rattle.lio_values.specs.declared.act.Reply.{Reply}
use Rattle.lio_values.specs.declared.act.Reply.TheVariants.{Done, Got, Told, Refused}
use Rattle.lio_syntax_lines.specs.declared.line.Simple.{Simple}
use Rattle.lio_syntax_lines.specs.Operands.{is_said}
use Rattle.lio_syntax.specs.Statements.{Procedure}
use Rattle.lio_guards.proofs.GuardLemmas.{current_flows_to_written, learnt_flows_to_label, label_flows_to_clearance, exchange_takes_label, current_flows_to_lowered, lowered_flows_to_clearance, exposed_flows_to_clearance}
use Rattle.lio_cells.specs.State.{Kind}
use Rattle.lio_syntax.specs.Items.{Item, open_calls}
use Rattle.lio_calculus.specs.Task.{TaskState}
use Rattle.lio_calculus.specs.Going.{Onward, Advance, Enter, Repeat, Try, Call, RaiseTo, Lower, HoldReference, HoldVariable, Fork, Spawn, BindReply, End}
use Rattle.lio_calculus.specs.Plan.{Program, Plan, Over, Own, Visit, Target, Node, New, plan, procedure_at}
use Rattle.lio_calculus.specs.Guarded.{label_after}
use Rattle.lio_calculus.specs.Sound.{IsRaised, ItemSays, says, statement_says, block_says}
use Rattle.lio_calculus.proofs.Outcome.{Reaches, Reads, Takes, Puts, Waits, Test, Asks, Outcome}
use Rattle.lio_calculus.proofs.Outcome as out
use Rattle.lio_calculus.proofs.PlanCases.{ItemsCase, Does, Enters, Skips, Chooses, ChoosesOther, Repeats, Tries, Visits, plan-by}
use Rattle.lio_calculus.proofs.Lists.{All-slice_get}
use Rattle.lio_guards.specs.Guard.{guarded}
use Rattle.lio_guards.specs.declared.verdict.Verdict.TheVariants.{Go}

-- the clearance after a turn: lowered by a lower, and else as it was
abbrev pub clearance_after : Onward → Label → Label
clearance_after (Lower clearance) before = clearance
clearance_after onward before = before

-- what a way of going on asks of the task
abbrev pub Suits : TaskState → Onward → Type 0
Suits task (Enter block) = IsTrue (block_says block)
Suits task (Repeat condition block) = IsTrue (is_said condition) × IsTrue (block_says block)
Suits task (Try block code payload handler) = IsTrue (block_says block) × IsTrue (block_says handler)
Suits task (Call name environment body) = IsTrue (block_says body) × (open_calls task.items < 64)
Suits task (RaiseTo label access) = IsRaised (record task { label = label }) access × IsTrue (says access)
Suits task (HoldReference name label) = 1 ≤ task.cells
Suits task (HoldVariable name label) = 1 ≤ task.cells
Suits task (Fork name label cells turns) = cells + 1 ≤ task.cells
Suits task (Spawn cells turns) = cells + 1 ≤ task.cells
Suits task onward = Unit {0}

-- a birth: the child takes the numbers behind its own, its label flows to its clearance, and that to the label of its result
pub record IsBorn (task : TaskState) (birth : Birth) : Type 0 where
  pub first : birth.first ≡ task.first + 1
  pub label : IsTrue (flows task.label birth.clearance)
  pub result : IsTrue (flows birth.clearance birth.result)

-- the act that ends a task, and how a task goes on then
abbrev pub is_ended : Act → Bool
is_ended (act.Ended content) = true
is_ended asked = false

abbrev pub is_end : Onward → Bool
is_end End = true
is_end onward = false

-- how a task goes on after it met a node that was there
abbrev pub is_quiet : Onward → Bool
is_quiet Advance = true
is_quiet (BindReply name) = true
is_quiet onward = false

-- how a task goes on after it made a node
abbrev pub NewSuits : TaskState → Act → Onward → Type 0
NewSuits task (act.NewRef label value) onward = (name : List ℕ) × (onward ≡ HoldReference name label)
NewSuits task (act.NewVar label value) onward = (name : List ℕ) × (onward ≡ HoldVariable name label)
NewSuits task (act.Fork birth) onward = IsBorn task birth × (name : List ℕ) × (onward ≡ Fork name birth.result birth.cells birth.turns)
NewSuits task (act.Spawn birth) onward = IsBorn task birth × (onward ≡ Spawn birth.cells birth.turns)
NewSuits task asked onward = ⊥

-- an act on a node that a handle names
abbrev pub is_visit : Act → Bool
is_visit act.Read = true
is_visit (act.Write value) = true
is_visit act.Take = true
is_visit (act.Put value) = true
is_visit act.Wait = true
is_visit (act.Send text) = true
is_visit asked = false

-- how a task goes on that takes numbers of its range
abbrev pub is_taking : Onward → Bool
is_taking (HoldReference name label) = true
is_taking (HoldVariable name label) = true
is_taking (Fork name label cells turns) = true
is_taking (Spawn cells turns) = true
is_taking onward = false

-- a reply that gives nothing
abbrev pub is_silent : Reply → Bool
is_silent Done = true
is_silent (Refused fault) = true
is_silent (Got value) = false
is_silent (Told content) = false

-- a plan keeps what a task keeps
pub record Kept (task : TaskState) (onward : Onward) : Type 0 where
  pub label : IsTrue (flows (label_after onward task.label) (clearance_after onward task.clearance))
  pub lowered : IsTrue (flows (clearance_after onward task.clearance) task.clearance)
  pub suits : Suits task onward

abbrev pub VisitKept : TaskState → Act → Target → Onward → Type 0
VisitKept task asked (New number) onward = (number ≡ task.first) × NewSuits task asked onward
VisitKept task asked (Node kind handle) onward = (is_visit asked ≡ true) × (is_quiet onward ≡ true)

abbrev pub KeptPlan : TaskState → Plan → Type 0
KeptPlan task Over = Unit {0}
KeptPlan task (Own asked reply onward) = Kept task onward × (is_ended asked ≡ is_end onward) × (is_silent reply ≡ true) × (is_taking onward ≡ false)
KeptPlan task (Visit asked target onward) = Kept task onward × VisitKept task asked target onward

-- a way of going on that keeps both labels
kept : (task : TaskState) (onward : Onward) → IsTrue (flows task.label task.clearance) → label_after onward task.label ≡ task.label → clearance_after onward task.clearance ≡ task.clearance → Suits task onward → Kept task onward
kept task onward below same cleared suits = record {
  label = rw same (rw cleared below);
  lowered = rw cleared (flow_is_reflexive task.clearance);
  suits = suits;
}

-- a raise
raised : (task : TaskState) (onward : Onward) (label : Label) → label_after onward task.label ≡ label → clearance_after onward task.clearance ≡ task.clearance → IsTrue (flows label task.clearance) → Suits task onward → Kept task onward
raised task onward label same cleared below suits = record {
  label = rw same (rw cleared below);
  lowered = rw cleared (flow_is_reflexive task.clearance);
  suits = suits;
}

-- an access whose raise is let go
access-raised : {s : Simple} {o : Op} {asked : Act} {kind : Kind} {handle : Handle} {onward : Onward} (task : TaskState) (current : Label) → Reaches task s o asked kind handle onward
    → guarded o task.label task.clearance handle.label ≡ Go current → IsRaised (record task { label = current }) s
access-raised task current (Reads e) go = (_, e, learnt_flows_to_label op.Read task.label task.clearance _ current refl go)
access-raised task current (Takes e) go = (_, e, sym (exchange_takes_label op.Take task.label task.clearance _ current refl go))
access-raised task current (Puts e f) go = (_, e, sym (exchange_takes_label op.Put task.label task.clearance _ current refl go), ap is_some f)
access-raised task current (Waits e) go = (_, e, learnt_flows_to_label op.Wait task.label task.clearance _ current refl go)

-- a procedure that is found is one of the program's
found-says : (program : Program) (p : List ℕ) (procedure : Procedure) → All (λ (q : Procedure). IsTrue (block_says q.body)) program.procedures → option_and_then (slice_get program.procedures) (procedure_at program p) ≡ Some procedure → IsTrue (block_says procedure.body)
found-says program p procedure all e = by (procedure_at program p) e
  where
    by : (at : Option ℕ) → option_and_then (slice_get program.procedures) at ≡ Some procedure → IsTrue (block_says procedure.body)
    by None f = absurd (cc)
    by (Some n) f = All-slice_get (λ (q : Procedure). IsTrue (block_says q.body)) program.procedures n procedure all f

asks-unended : {program : Program} {task : TaskState} {s : Simple} {asked : Act} {test : Test} → Asks program task s asked test → is_ended asked ≡ false
asks-unended (out.Tainting e) = refl
asks-unended asks = refl

-- the cases of a plan
module _ (program : Program) (task : TaskState) (below : IsTrue (flows task.label task.clearance)) (all : All (λ (q : Procedure). IsTrue (block_says q.body)) program.procedures) where
  outcome-kept : {s : Simple} {p : Plan} → IsTrue (says s) → Outcome program task s p → KeptPlan task p
  outcome-kept said (out.Refused asks e) = (kept task _ below refl refl tt, asks-unended asks, refl, refl)
  outcome-kept said (out.LacksCells asks) = (kept task _ below refl refl tt, asks-unended asks, refl, refl)
  outcome-kept said (out.LacksTurns asks) = (kept task _ below refl refl tt, asks-unended asks, refl, refl)
  outcome-kept said (out.Calls {p = name} e f shallow) = (kept task _ below refl refl (found-says program name _ all f, shallow), refl, refl, refl)
  outcome-kept said (out.Unlabels {current = current} e f) = (raised task _ current refl refl (label_flows_to_clearance op.Unlabel task.label task.clearance _ current below f) tt, refl, refl, refl)
  outcome-kept said (out.Exposes {current = current} asks e f) = (raised task _ current refl refl (exposed_flows_to_clearance task.label task.clearance _ current _ f) tt, refl, refl, refl)
  outcome-kept said (out.Taints {current = current} e f) = (raised task _ current refl refl (label_flows_to_clearance op.Taint task.label task.clearance _ current below f) tt, refl, refl, refl)
  outcome-kept said (out.Lowers e f) =
      (record { label = current_flows_to_lowered task.label task.clearance _ _ f; lowered = lowered_flows_to_clearance task.label task.clearance _ _ f; suits = tt }, refl, refl, refl)
  outcome-kept said (out.IsRaised {o = o} {current = current} r e) =
      (raised task _ current refl refl (label_flows_to_clearance o task.label task.clearance _ current below e) (access-raised task current r e, said), refl, refl, refl)
  outcome-kept said (out.MakesReference asks e room) = (kept task _ below refl refl room, (refl, (_, refl)))
  outcome-kept said (out.MakesVariable asks e room) = (kept task _ below refl refl room, (refl, (_, refl)))
  outcome-kept said (out.MakesChild {label = label} asks e f room enough) = (
    kept task _ below refl refl room,
    (refl, (record { first = refl; label = current_flows_to_written op.Fork task.label task.clearance label _ refl f; result = flow_is_reflexive label }, _, refl)),
  )
  outcome-kept said (out.MakesOrphan asks e room enough) =
      (kept task _ below refl refl room, (refl, (record { first = refl; label = below; result = flow_is_reflexive task.clearance }, refl)))
  outcome-kept said (out.Writes e f g) = (kept task _ below refl refl tt, (refl, refl))
  outcome-kept said (out.Sends e f g) = (kept task _ below refl refl tt, (refl, refl))
  outcome-kept said o = (kept task _ below refl refl tt, refl, refl, refl)

  items-kept : {items : List Item} {p : Plan} → All ItemSays items → ItemsCase program task items p → KeptPlan task p
  unfolding statement_says block_says
  items-kept said (Does o) = outcome-kept (All-head ItemSays _ _ said) o
  items-kept said (Enters {a = a} {block = block}) = (kept task _ below refl refl (and_parts (is_said a) (block_says block) (All-head ItemSays _ _ said)).1, refl, refl, refl)
  items-kept said Skips = (kept task _ below refl refl refl, refl, refl, refl)
  items-kept said (Chooses {a = a} {block = block} {other = other}) =
      let parts = and_parts (is_said a) (block_says block && block_says other) (All-head ItemSays _ _ said) in
      (kept task _ below refl refl (and_parts (block_says block) (block_says other) parts.1).0, refl, refl, refl)
  items-kept said (ChoosesOther {a = a} {block = block} {other = other}) =
      let parts = and_parts (is_said a) (block_says block && block_says other) (All-head ItemSays _ _ said) in
      (kept task _ below refl refl (and_parts (block_says block) (block_says other) parts.1).1, refl, refl, refl)
  items-kept said (Repeats {a = a} {block = block}) = (kept task _ below refl refl (and_parts (is_said a) (block_says block) (All-head ItemSays _ _ said)), refl, refl, refl)
  items-kept said (Tries {block = block} {handler = handler}) = (kept task _ below refl refl (and_parts (block_says block) (block_says handler) (All-head ItemSays _ _ said)), refl, refl, refl)
  items-kept said (Visits (Reads e)) = (kept task _ below refl refl tt, (refl, refl))
  items-kept said (Visits r) = (kept task _ below refl refl tt, (refl, refl))
  items-kept said o = (kept task _ below refl refl tt, refl, refl, refl)

-- the plan of a task
pub plan-kept : (program : Program) (task : TaskState) → IsTrue (flows task.label task.clearance) → All ItemSays task.items
    → All (λ (q : Procedure). IsTrue (block_says q.body)) program.procedures → KeptPlan task (plan program task)
plan-kept program task below said all =
    plan-by (KeptPlan task) program task tt (kept task _ below refl refl tt, refl, refl, refl) (λ p going o. items-kept program task below all said o)
