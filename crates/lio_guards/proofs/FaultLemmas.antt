-- When the tests of a guard all hold, and what the fault of one that fails says.
use Rattle.std.proofs.Common.{◌≡◌, Bool, true, false, cond, ◌||◌, Option, Some, None, IsTrue, IsFalse, refl, subst}
use Rattle.std.specs.Option.{option_or}
use Rattle.lio_labels.specs.declared.label.Label.{Label}
use Rattle.lio_labels.specs.declared.privilege.Priv.{Priv}
use Rattle.lio_labels.specs.Flow.{flows}
use Rattle.lio_labels.specs.Bounds.{join}
use Rattle.lio_labels.specs.Privilege.{flows_with, downgraded}
use Rattle.lio_values.specs.declared.fault.FaultKind.{FaultKind}
use Rattle.lio_values.specs.declared.fault.FaultKind.TheVariants.{FlowCurrent, FlowClearance, FlowRaise, FlowPrivilege, LabelWide}
use Rattle.lio_guards.specs.Width.{is_wide}
use Rattle.lio_guards.specs.Guard.{write_fault, raise_fault, release_fault, exposed, expose_fault}
use Rattle.lio_guards.specs.Laws.{Fails, FailsToExpose}

-- ---- one test, or two

one-None : (a : Bool) (x : FaultKind) → cond a None (Some x) ≡ None → IsTrue a
one-None true x e = refl
one-None false x e = absurd (cc)

one-Some : (P : FaultKind → Type 0) (a : Bool) (x kind : FaultKind) → (IsFalse a → P x) → cond a None (Some x) ≡ Some kind → P kind
one-Some P true x kind f e = absurd (cc)
one-Some P false x kind f e = let same : x ≡ kind = cc in subst P same (f refl)

some-Some : (P : FaultKind → Type 0) (x kind : FaultKind) → P x → Some x ≡ Some kind → P kind
some-Some P x kind p e = let same : x ≡ kind = cc in subst P same p

-- ---- writing

-- a target without a fault of writing stands between the current label and the clearance
pub record IsBetween (current clearance target : Label) : Type 0 where
  pub below : IsTrue (flows current target)
  pub above : IsTrue (flows target clearance)

pub write_fault-None : (current clearance target : Label) → write_fault current clearance target ≡ None → IsBetween current clearance target
unfolding write_fault
write_fault-None current clearance target e = let p = by (flows current target) (flows target clearance) e in record { below = p.0; above = p.1 }
  where
    by : (a b : Bool) → cond a (cond b None (Some (FlowClearance target clearance))) (Some (FlowCurrent current target)) ≡ None → IsTrue a × IsTrue b
    by true b e = (refl, one-None b (FlowClearance target clearance) e)
    by false b e = absurd (cc)

pub write_fault-Some : (current clearance target : Label) (kind : FaultKind) → write_fault current clearance target ≡ Some kind → Fails kind
unfolding write_fault
write_fault-Some current clearance target kind e = by (flows current target) (λ f. f) e
  where
    by : (a : Bool) → (IsFalse a → Fails (FlowCurrent current target))
        → cond a (cond (flows target clearance) None (Some (FlowClearance target clearance))) (Some (FlowCurrent current target)) ≡ Some kind → Fails kind
    by true f e = one-Some Fails (flows target clearance) (FlowClearance target clearance) kind (λ h. h) e
    by false f e = some-Some Fails (FlowCurrent current target) kind (f refl) e

-- ---- raising

-- a raise without a fault
pub record IsRaised (current clearance target : Label) : Type 0 where
  pub narrow : IsFalse (is_wide (join current target))
  pub above : IsTrue (flows (join current target) clearance)

pub raise_fault-None : (current clearance target : Label) → raise_fault current clearance target ≡ None → IsRaised current clearance target
unfolding raise_fault
raise_fault-None current clearance target e =
    let p = by (is_wide (join current target)) (flows (join current target) clearance) e in record { narrow = p.0; above = p.1 }
  where
    by : (a b : Bool) → cond a (Some (LabelWide current target)) (cond b None (Some (FlowRaise (join current target) clearance))) ≡ None → IsFalse a × IsTrue b
    by true b e = absurd (cc)
    by false b e = (refl, one-None b (FlowRaise (join current target) clearance) e)

pub raise_fault-Some : (current clearance target : Label) (kind : FaultKind) → raise_fault current clearance target ≡ Some kind → Fails kind
unfolding raise_fault
raise_fault-Some current clearance target kind e = by (is_wide (join current target)) (λ t. t) e
  where
    by : (a : Bool) → (IsTrue a → Fails (LabelWide current target))
        → cond a (Some (LabelWide current target)) (cond (flows (join current target) clearance) None (Some (FlowRaise (join current target) clearance))) ≡ Some kind → Fails kind
    by true f e = some-Some Fails (LabelWide current target) kind (f refl) e
    by false f e = one-Some Fails (flows (join current target) clearance) (FlowRaise (join current target) clearance) kind (λ h. h) e

-- ---- releasing

pub release_fault-None : (source target : Label) (power : Priv) → release_fault source target power ≡ None → IsTrue (flows_with power source target)
unfolding release_fault
release_fault-None source target power e = one-None (flows_with power source target) (FlowPrivilege power source target) e

pub release_fault-Some : (source target : Label) (power : Priv) (kind : FaultKind) → release_fault source target power ≡ Some kind → Fails kind
unfolding release_fault
release_fault-Some source target power kind e = one-Some Fails (flows_with power source target) (FlowPrivilege power source target) kind (λ h. h) e

-- ---- exposing

either-false : (a b : Bool) → (a || b) ≡ false → IsFalse b
either-false true b e = absurd (cc)
either-false false b e = e

-- exposing without a fault
pub record IsExposed (current clearance source : Label) (power : Priv) : Type 0 where
  pub narrow : IsFalse (is_wide (exposed current source power))
  pub above : IsTrue (flows (exposed current source power) clearance)

pub expose_fault-None : (current clearance source : Label) (power : Priv) → expose_fault current clearance source power ≡ None → IsExposed current clearance source power
unfolding expose_fault
expose_fault-None current clearance source power e =
    let p = by (is_wide (downgraded power source) || is_wide (exposed current source power)) (flows (exposed current source power) clearance) e in
    record { narrow = either-false (is_wide (downgraded power source)) (is_wide (exposed current source power)) p.0; above = p.1 }
  where
    by : (a b : Bool) → cond a (Some (LabelWide current source)) (cond b None (Some (FlowRaise (exposed current source power) clearance))) ≡ None → (a ≡ false) × IsTrue b
    by true b e = absurd (cc)
    by false b e = (refl, one-None b (FlowRaise (exposed current source power) clearance) e)

pub expose_fault-Some : (current clearance source : Label) (power : Priv) (kind : FaultKind) → expose_fault current clearance source power ≡ Some kind → FailsToExpose power kind
unfolding expose_fault
expose_fault-Some current clearance source power kind e =
    by (is_wide (downgraded power source) || is_wide (exposed current source power)) (λ t. t) e
  where
    by : (a : Bool) → (IsTrue a → FailsToExpose power (LabelWide current source))
        → cond a (Some (LabelWide current source)) (cond (flows (exposed current source power) clearance) None (Some (FlowRaise (exposed current source power) clearance))) ≡ Some kind
        → FailsToExpose power kind
    by true f e = some-Some (FailsToExpose power) (LabelWide current source) kind (f refl) e
    by false f e = one-Some (FailsToExpose power) (flows (exposed current source power) clearance) (FlowRaise (exposed current source power) clearance) kind (λ h. h) e

-- ---- one fault after another

pub option_or-None : (a b : Option FaultKind) → option_or a b ≡ None → (a ≡ None) × (b ≡ None)
option_or-None None b e = (refl, e)
option_or-None (Some x) b e = absurd (cc)

pub option_or-Some : (a b : Option FaultKind) (kind : FaultKind) → (a ≡ Some kind → Fails kind) → (b ≡ Some kind → Fails kind) → option_or a b ≡ Some kind → Fails kind
option_or-Some None b kind f g e = g e
option_or-Some (Some x) b kind f g e = f e
