-- The laws of guards. A law and its lemma have one name.
use Rattle.std.proofs.Common.{◌≡◌, ◌∙◌, true, Option, Some, None, IsTrue, IsFalse, ap, refl, sym, subst}
use Rattle.std.proofs.lemmas.Bool.{false≢true}
use Rattle.std.specs.Option.{is_none, option_or}
use Rattle.lio_labels.specs.declared.label.Label.{Label}
use Rattle.lio_labels.specs.declared.privilege.Priv.{Priv}
use Rattle.lio_labels.specs.Flow.{flows}
use Rattle.lio_labels.specs.Bounds.{join}
use Rattle.lio_labels.specs.Privilege.{flows_with, downgraded}
use Rattle.lio_labels.proofs.FlowLemmas.{flow_is_reflexive}
use Rattle.lio_labels.proofs.BoundLemmas.{left_flows_to_join, right_flows_to_join}
use Rattle.lio_labels.proofs.PrivilegeLemmas.{privilege_then_flow}
use Rattle.lio_labels.proofs.DowngradeLemmas.{flows_to_downgraded}
use Rattle.lio_values.specs.declared.act.Op.{Op}
use Rattle.lio_values.specs.declared.act.Op.TheVariants.{Lower}
use Rattle.lio_values.specs.declared.fault.FaultKind.{FaultKind}
use Rattle.lio_guards.specs.declared.class.Class.{Class}
use Rattle.lio_guards.specs.declared.class.Class.TheVariants.{Write, Raise, Exchange}
use Rattle.lio_guards.specs.declared.verdict.Verdict.TheVariants.{Go, No}
use Rattle.lio_guards.specs.Class.{class_of}
use Rattle.lio_guards.specs.Width.{is_wide}
use Rattle.lio_guards.specs.Guard.{write_fault, raise_fault, release_fault, go_unless, guarded_as, guarded, guarded_relabel, exposed, expose_fault, guarded_expose}
use Rattle.lio_guards.specs.Laws.{writes, learns, Fails, ExposeJoinsLabel, CurrentFlowsToExposed, ExposedFlowsToClearance, ExposedIsNarrow, ExposedFlowsWithPrivilege, ExposeRefusedWhereTestFails, CurrentFlowsToWritten, WrittenFlowsToClearance, LearntFlowsToLabel, CurrentFlowsToLabel, LabelFlowsToClearance, WriteKeepsLabel, RaiseJoinsLabel, RaiseIsNarrow, ExchangeTakesLabel, CurrentFlowsToLowered, LoweredFlowsToClearance, CurrentFlowsToReleased, ReleasedFlowsToClearance, SourceFlowsWithPrivilege, ReleaseKeepsLabel, RefusedWhereTestFails, ReleaseRefusedWhereTestFails}
use Rattle.lio_guards.proofs.FaultLemmas.{IsExposed, expose_fault-None, expose_fault-Some, IsBetween, IsRaised, write_fault-None, write_fault-Some, raise_fault-None, raise_fault-Some, release_fault-None, release_fault-Some, option_or-None, option_or-Some}

-- ---- a verdict

goes-without : (fault : Option FaultKind) (new label : Label) → go_unless fault new ≡ Go label → fault ≡ None
goes-without None new label e = refl
goes-without (Some kind) new label e = absurd (cc)

goes-at : (fault : Option FaultKind) (new label : Label) → go_unless fault new ≡ Go label → label ≡ new
goes-at None new label e = cc
goes-at (Some kind) new label e = absurd (cc)

refused-for : (fault : Option FaultKind) (new : Label) (kind : FaultKind) → go_unless fault new ≡ No kind → fault ≡ Some kind
refused-for None new kind e = absurd (cc)
refused-for (Some found) new kind e = cc

-- ---- by the class of the operation

-- an operation that writes alone goes on as it is where its target may be written to
pub write_lets : (op : Op) (current clearance target : Label) → class_of op ≡ Write → true ≡ is_none (write_fault current clearance target) → guarded op current clearance target ≡ Go current
unfolding guarded
write_lets op current clearance target is none =
    ap (λ (c : Class). guarded_as c current clearance target) is ∙ ap (λ (f : Option FaultKind). go_unless f current) (there (write_fault current clearance target) none)
  where
    there : (f : Option FaultKind) → true ≡ is_none f → f ≡ None
    there None e = refl
    there (Some kind) e = absurd (false≢true (sym e))

between : (current clearance target new label : Label) → go_unless (write_fault current clearance target) new ≡ Go label → IsBetween current clearance target
between current clearance target new label e = write_fault-None current clearance target (goes-without (write_fault current clearance target) new label e)

raised : (current clearance target label : Label) → guarded_as Raise current clearance target ≡ Go label → IsRaised current clearance target
raised current clearance target label e = raise_fault-None current clearance target (goes-without (raise_fault current clearance target) (join current target) label e)

written : (class : Class) (current clearance target label : Label) → IsTrue (writes class) → guarded_as class current clearance target ≡ Go label → IsBetween current clearance target
written Write current clearance target label w e = between current clearance target current label e
written Raise current clearance target label w e = absurd (false≢true w)
written Exchange current clearance target label w e = between current clearance target target label e

write_keeps : (class : Class) (current clearance target label : Label) → class ≡ Write → guarded_as class current clearance target ≡ Go label → label ≡ current
write_keeps Write current clearance target label w e = goes-at (write_fault current clearance target) current label e
write_keeps Raise current clearance target label w e = absurd (cc)
write_keeps Exchange current clearance target label w e = absurd (cc)

raise_joins : (class : Class) (current clearance target label : Label) → class ≡ Raise → guarded_as class current clearance target ≡ Go label → label ≡ join current target
raise_joins Write current clearance target label r e = absurd (cc)
raise_joins Raise current clearance target label r e = goes-at (raise_fault current clearance target) (join current target) label e
raise_joins Exchange current clearance target label r e = absurd (cc)

raise_narrow : (class : Class) (current clearance target label : Label) → class ≡ Raise → guarded_as class current clearance target ≡ Go label → IsFalse (is_wide (join current target))
raise_narrow Write current clearance target label r e = absurd (cc)
raise_narrow Raise current clearance target label r e = (raised current clearance target label e).narrow
raise_narrow Exchange current clearance target label r e = absurd (cc)

exchange_takes : (class : Class) (current clearance target label : Label) → class ≡ Exchange → guarded_as class current clearance target ≡ Go label → label ≡ target
exchange_takes Write current clearance target label x e = absurd (cc)
exchange_takes Raise current clearance target label x e = absurd (cc)
exchange_takes Exchange current clearance target label x e = goes-at (write_fault current clearance target) target label e

abbrev ReachedFrom : Label → Label → Type 0
ReachedFrom from label = IsTrue (flows from label)

abbrev ReachesTo : Label → Label → Type 0
ReachesTo to label = IsTrue (flows label to)

learnt : (class : Class) (current clearance target label : Label) → IsTrue (learns class) → guarded_as class current clearance target ≡ Go label → IsTrue (flows target label)
learnt Write current clearance target label l e = absurd (false≢true l)
learnt Raise current clearance target label l e = subst (ReachedFrom target) (sym (raise_joins Raise current clearance target label refl e)) (right_flows_to_join current target)
learnt Exchange current clearance target label l e = subst (ReachedFrom target) (sym (exchange_takes Exchange current clearance target label refl e)) (flow_is_reflexive target)

rises : (class : Class) (current clearance target label : Label) → guarded_as class current clearance target ≡ Go label → IsTrue (flows current label)
rises Write current clearance target label e = subst (ReachedFrom current) (sym (write_keeps Write current clearance target label refl e)) (flow_is_reflexive current)
rises Raise current clearance target label e = subst (ReachedFrom current) (sym (raise_joins Raise current clearance target label refl e)) (left_flows_to_join current target)
rises Exchange current clearance target label e =
    subst (ReachedFrom current) (sym (exchange_takes Exchange current clearance target label refl e)) (between current clearance target target label e).below

stays_below : (class : Class) (current clearance target label : Label) → IsTrue (flows current clearance) → guarded_as class current clearance target ≡ Go label → IsTrue (flows label clearance)
stays_below Write current clearance target label h e = subst (ReachesTo clearance) (sym (write_keeps Write current clearance target label refl e)) h
stays_below Raise current clearance target label h e =
    subst (ReachesTo clearance) (sym (raise_joins Raise current clearance target label refl e)) (raised current clearance target label e).above
stays_below Exchange current clearance target label h e =
    subst (ReachesTo clearance) (sym (exchange_takes Exchange current clearance target label refl e)) (between current clearance target target label e).above

refused : (class : Class) (current clearance target : Label) (kind : FaultKind) → guarded_as class current clearance target ≡ No kind → Fails kind
refused Write current clearance target kind e = write_fault-Some current clearance target kind (refused-for (write_fault current clearance target) current kind e)
refused Raise current clearance target kind e = raise_fault-Some current clearance target kind (refused-for (raise_fault current clearance target) (join current target) kind e)
refused Exchange current clearance target kind e = write_fault-Some current clearance target kind (refused-for (write_fault current clearance target) target kind e)

-- ---- the laws of operations

pub current_flows_to_written : CurrentFlowsToWritten
unfolding guarded
current_flows_to_written op current clearance target label w e = (written (class_of op) current clearance target label w e).below

pub written_flows_to_clearance : WrittenFlowsToClearance
unfolding guarded
written_flows_to_clearance op current clearance target label w e = (written (class_of op) current clearance target label w e).above

pub learnt_flows_to_label : LearntFlowsToLabel
unfolding guarded
learnt_flows_to_label op current clearance target label l e = learnt (class_of op) current clearance target label l e

pub current_flows_to_label : CurrentFlowsToLabel
unfolding guarded
current_flows_to_label op current clearance target label e = rises (class_of op) current clearance target label e

pub label_flows_to_clearance : LabelFlowsToClearance
unfolding guarded
label_flows_to_clearance op current clearance target label h e = stays_below (class_of op) current clearance target label h e

pub write_keeps_label : WriteKeepsLabel
unfolding guarded
write_keeps_label op current clearance target label w e = write_keeps (class_of op) current clearance target label w e

pub raise_joins_label : RaiseJoinsLabel
unfolding guarded
raise_joins_label op current clearance target label r e = raise_joins (class_of op) current clearance target label r e

pub raise_is_narrow : RaiseIsNarrow
unfolding guarded
raise_is_narrow op current clearance target label r e =
    let P : Label → Type 0 = λ l. IsFalse (is_wide l) in
    subst P (sym (raise_joins (class_of op) current clearance target label r e)) (raise_narrow (class_of op) current clearance target label r e)

pub exchange_takes_label : ExchangeTakesLabel
unfolding guarded
exchange_takes_label op current clearance target label x e = exchange_takes (class_of op) current clearance target label x e

pub current_flows_to_lowered : CurrentFlowsToLowered
current_flows_to_lowered current clearance lowered label e = current_flows_to_written Lower current clearance lowered label refl e

pub lowered_flows_to_clearance : LoweredFlowsToClearance
lowered_flows_to_clearance current clearance lowered label e = written_flows_to_clearance Lower current clearance lowered label refl e

pub refused_where_test_fails : RefusedWhereTestFails
unfolding guarded
refused_where_test_fails op current clearance target kind e = refused (class_of op) current clearance target kind e

-- ---- the laws of a release

release-tests : (current clearance source target label : Label) (power : Priv) → guarded_relabel current clearance source target power ≡ Go label
    → (write_fault current clearance target ≡ None) × (release_fault source target power ≡ None)
unfolding guarded_relabel
release-tests current clearance source target label power e =
    option_or-None (write_fault current clearance target) (release_fault source target power)
    (goes-without (option_or (write_fault current clearance target) (release_fault source target power)) current label e)

pub current_flows_to_released : CurrentFlowsToReleased
current_flows_to_released current clearance source target label power e =
    (write_fault-None current clearance target (release-tests current clearance source target label power e).0).below

pub released_flows_to_clearance : ReleasedFlowsToClearance
released_flows_to_clearance current clearance source target label power e =
    (write_fault-None current clearance target (release-tests current clearance source target label power e).0).above

pub source_flows_with_privilege : SourceFlowsWithPrivilege
source_flows_with_privilege current clearance source target label power e =
    release_fault-None source target power (release-tests current clearance source target label power e).1

pub release_keeps_label : ReleaseKeepsLabel
unfolding guarded_relabel
release_keeps_label current clearance source target label power e =
    goes-at (option_or (write_fault current clearance target) (release_fault source target power)) current label e

pub release_refused_where_test_fails : ReleaseRefusedWhereTestFails
unfolding guarded_relabel
release_refused_where_test_fails current clearance source target power kind e =
    option_or-Some (write_fault current clearance target) (release_fault source target power) kind
    (write_fault-Some current clearance target kind) (release_fault-Some source target power kind)
    (refused-for (option_or (write_fault current clearance target) (release_fault source target power)) current kind e)

-- ---- the laws of exposing

exposes : (current clearance source label : Label) (power : Priv) → guarded_expose current clearance source power ≡ Go label → IsExposed current clearance source power
unfolding guarded_expose
exposes current clearance source label power e =
    expose_fault-None current clearance source power (goes-without (expose_fault current clearance source power) (exposed current source power) label e)

pub expose_joins_label : ExposeJoinsLabel
unfolding guarded_expose
expose_joins_label current clearance source label power e = goes-at (expose_fault current clearance source power) (exposed current source power) label e

pub current_flows_to_exposed : CurrentFlowsToExposed
unfolding exposed
current_flows_to_exposed current clearance source label power e =
    subst (ReachedFrom current) (sym (expose_joins_label current clearance source label power e)) (left_flows_to_join current (downgraded power source))

pub exposed_flows_to_clearance : ExposedFlowsToClearance
exposed_flows_to_clearance current clearance source label power e =
    subst (ReachesTo clearance) (sym (expose_joins_label current clearance source label power e)) (exposes current clearance source label power e).above

pub exposed_is_narrow : ExposedIsNarrow
exposed_is_narrow current clearance source label power e =
    let P : Label → Type 0 = λ l. IsFalse (is_wide l) in
    subst P (sym (expose_joins_label current clearance source label power e)) (exposes current clearance source label power e).narrow

pub exposed_flows_with_privilege : ExposedFlowsWithPrivilege
unfolding exposed
exposed_flows_with_privilege current clearance source label power e =
    let P : Label → Type 0 = λ l. IsTrue (flows_with power source l) in
    subst P (sym (expose_joins_label current clearance source label power e))
    (privilege_then_flow power source (downgraded power source) (join current (downgraded power source))
    (flows_to_downgraded power source) (right_flows_to_join current (downgraded power source)))

pub expose_refused_where_test_fails : ExposeRefusedWhereTestFails
unfolding guarded_expose
expose_refused_where_test_fails current clearance source power kind e =
    expose_fault-Some current clearance source power kind (refused-for (expose_fault current clearance source power) (exposed current source power) kind e)
