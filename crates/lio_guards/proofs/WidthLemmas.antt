-- The test of width, and the join that is made unless it is wide.
use Rattle.std.proofs.Common.{◌≡◌, Bool, true, false, ◌||◌, nat_lt, cond, length, inl, inr, Option, Some, None, Ok, Err, IsFalse, IsTrue, is_ok, refl, sym, ap, ◌∙◌}
use Rattle.std.proofs.lemmas.Bool.{true≢false, or_cases, cases_Bool, ltb-true, lt-ltb}
use Rattle.lio_clauses.specs.declared.faults.FormFault.{FormFault}
use Rattle.lio_clauses.specs.declared.faults.FormFault.TheVariants.{Wide}
use Rattle.lio_labels.specs.declared.label.Label.{Label}
use Rattle.lio_labels.specs.IsLabel.{IsWide}
use Rattle.lio_labels.proofs.WidthLemmas.{WideWhere}
use Rattle.lio_guards.specs.Width.{is_wide, WidthIsTested}

or-right : (x y : Bool) → y ≡ true → (x || y) ≡ true
or-right true y h = refl
or-right false y h = h

wide-tested : (label : Label) → IsTrue (is_wide label) → IsWide label
unfolding is_wide
wide-tested label t =
    elim (or_cases (nat_lt 64 (length label.secrecy)) (nat_lt 64 (length label.integrity)) t) as (λ _. IsWide label) [
      | inl s ↦ inl (ltb-true 64 (length label.secrecy) s)
      | inr i ↦ inr (ltb-true 64 (length label.integrity) i)
    ]

wide-test : (label : Label) → IsWide label → IsTrue (is_wide label)
unfolding is_wide
wide-test label (inl s) = ap (λ b. b || nat_lt 64 (length label.integrity)) (lt-ltb 64 (length label.secrecy) s)
wide-test label (inr i) = or-right (nat_lt 64 (length label.secrecy)) (nat_lt 64 (length label.integrity)) (lt-ltb 64 (length label.integrity) i)

pub width_is_tested : WidthIsTested
width_is_tested label = (wide-tested label, wide-test label)

-- a label that is made isn't wide, and one that is refused as wide is
pub made-narrow : (label made : Label) → WideWhere (Ok made) (IsWide label) → IsFalse (is_wide label)
made-narrow label made h =
    elim (cases_Bool (is_wide label)) as (λ _. IsFalse (is_wide label)) [
      | inl t ↦ absurd (true≢false (ap is_ok ((h (λ e. absurd (true≢false (ap is_ok e)))).1 (wide-tested label t))))
      | inr f ↦ f
    ]

pub refused-wide : (label : Label) (fault : FormFault) → fault ≡ Wide → WideWhere {X = Label} (Err fault) (IsWide label) → IsTrue (is_wide label)
refused-wide label fault e h = wide-test label ((h (λ q. cc)).0 (ap Err e))

abbrev unless_wide : Label → Bool → Option Label
unless_wide label wide = cond wide None (Some label)

pub made-unless_wide : (label made : Label) → made ≡ label → WideWhere (Ok made) (IsWide label) → Some made ≡ unless_wide label (is_wide label)
made-unless_wide label made e h = ap Some e ∙ ap (unless_wide label) (sym (made-narrow label made h))

pub refused-unless_wide : (label : Label) (fault : FormFault) → fault ≡ Wide → WideWhere {X = Label} (Err fault) (IsWide label) → None ≡ unless_wide label (is_wide label)
refused-unless_wide label fault e h = ap (unless_wide label) (sym (refused-wide label fault e h))
