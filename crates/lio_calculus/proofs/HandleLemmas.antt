-- Each visit meets its node by the handle that the task names ahead.
use Rattle.std.proofs.Common.{◌≡◌, refl, sym, subst, true, true≢false, if◌then◌else◌, is_some, List, Option, Some, None}
use Rattle.lio_values.specs.declared.value.Handle.{Handle}
use Rattle.lio_values.specs.declared.act.Act.{Act}
use Rattle.lio_values.specs.declared.act.Act.TheVariants as act
use Rattle.lio_syntax_lines.specs.declared.line.Simple.{Simple}
use Rattle.lio_cells.specs.State.{Reference, Variable, Channel, Result as result}
use Rattle.lio_syntax.specs.Items.{Item}
use Rattle.lio_calculus.specs.Operands.{bound, seen_as, text_of, reference_of, channel_of}
use Rattle.lio_calculus.specs.Task.{TaskState}
use Rattle.lio_calculus.specs.Plan.{Program, Plan, Over, Own, Visit, Node, New}
use Rattle.lio_calculus.specs.Afforded.{makes}
use Rattle.lio_calculus.specs.Handles.{handle_ahead, handle_written, IsMetBy, VisitMeetsHandle}
use Rattle.lio_calculus.proofs.Outcome.{Reads, Takes, Puts, Waits, Test, Asks, Outcome}
use Rattle.lio_calculus.proofs.Outcome as out
use Rattle.lio_calculus.proofs.PlanCases.{ItemsCase, Does, Visits, plan-by}

-- a plan meets its node by this handle, if it visits one
abbrev MeetsBy : TaskState → Option Handle → Plan → Type 0
MeetsBy task named Over = Unit {0}
MeetsBy task named (Own asked reply onward) = Unit {0}
MeetsBy task named (Visit asked target onward) = IsMetBy task asked target named

-- what is named where another operand is there
beside : {X : Type 0} (named : Option Handle) (handle : Handle) (other : Option X) (x : X) → named ≡ Some handle → other ≡ Some x → (if is_some other then named else None) ≡ Some handle
beside named handle other x e f = rw f e

-- a statement that asks for a new node names no handle ahead
makes-unnamed : {program : Program} {task : TaskState} {s : Simple} {asked : Act} {test : Test} → Asks program task s asked test → makes asked ≡ true → handle_written task.environment s ≡ None
makes-unnamed (out.Writing e f) made = absurd (true≢false (sym made))
makes-unnamed (out.Sending e f) made = absurd (true≢false (sym made))
makes-unnamed (out.Raising r) made = absurd (true≢false (sym made))
makes-unnamed asks made = refl

-- the cases of a plan
outcome-meets : {s : Simple} {p : Plan} (program : Program) (task : TaskState) → Outcome program task s p → MeetsBy task (handle_written task.environment s) p
outcome-meets program task (out.Writes {r = r} {a = a} {handle = handle} {value = value} e f g) =
    subst (IsMetBy task (act.Write value) (Node Reference handle)) (sym (beside (seen_as reference_of task.environment r) handle (bound task.environment a) value e f)) (Reference, refl, refl)
outcome-meets program task (out.Sends {c = c} {a = a} {handle = handle} {text = text} e f g) =
    subst (IsMetBy task (act.Send text) (Node Channel handle)) (sym (beside (seen_as channel_of task.environment c) handle (seen_as text_of task.environment a) text e f)) (Channel, refl, refl)
outcome-meets program task (out.MakesReference asks e room) = (refl, refl)
outcome-meets program task (out.MakesVariable {label = label} {value = value} asks e room) = subst (IsMetBy task (act.NewVar label value) (New task.first)) (sym (makes-unnamed asks refl)) (refl, refl)
outcome-meets program task (out.MakesChild asks e f room enough) = (refl, refl)
outcome-meets program task (out.MakesOrphan asks e room enough) = (refl, refl)
outcome-meets program task o = tt

items-meet : {items : List Item} {p : Plan} (program : Program) (task : TaskState) → ItemsCase program task items p → MeetsBy task (handle_ahead task.environment items) p
items-meet program task (Does o) = outcome-meets program task o
items-meet program task (Visits (Reads {handle = handle} e)) = subst (IsMetBy task act.Read (Node Reference handle)) (sym e) (Reference, refl, refl)
items-meet program task (Visits (Takes {handle = handle} e)) = subst (IsMetBy task act.Take (Node Variable handle)) (sym e) (Variable, refl, refl)
items-meet program task (Visits (Puts {handle = handle} {value = value} e f)) = subst (IsMetBy task (act.Put value) (Node Variable handle)) (sym e) (Variable, refl, refl)
items-meet program task (Visits (Waits {handle = handle} e)) = subst (IsMetBy task act.Wait (Node result handle)) (sym e) (result, refl, refl)
items-meet program task o = tt

pub visit_meets_handle : VisitMeetsHandle
visit_meets_handle program task asked target onward visits =
    subst (MeetsBy task (handle_ahead task.environment task.items)) visits (plan-by (MeetsBy task (handle_ahead task.environment task.items)) program task tt tt (λ p going o. items-meet program task o))
