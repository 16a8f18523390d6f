-- When the parts of a label answer Wide, so does the label.
use Rattle.std.proofs.Common.{◌≡◌, ◌≢◌, ◌↔◌, ℕ, List, inl, inr, refl, ap, Result, Ok, Err, is_ok}
use Rattle.std.proofs.lemmas.Bool.{true≢false}
use Rattle.lio_clauses.specs.declared.faults.FormFault.{FormFault}
use Rattle.lio_clauses.specs.declared.faults.FormFault.TheVariants.{Wide, NoMemory}
use Rattle.lio_clauses.specs.Width as formula
use Rattle.lio_clauses.proofs.Answered.{IsWideExactly}
use Rattle.lio_labels.specs.declared.label.Label.{Label}
use Rattle.lio_labels.specs.IsLabel.{IsWide}

-- Wide is answered exactly where something holds, unless memory is wanting
abbrev pub WideWhere : {X : Type 0} → Result X FormFault → Type 0 → Type 0
WideWhere r W = r ≢ Err NoMemory → (r ≡ Err Wide) ↔ W

-- a part is not made
pub wide-part : {X Y : Type 0} (fault : FormFault) (A : List (List ℕ)) (W : Type 0) → (formula.IsWide A → W) → IsWideExactly {X = X} (Err fault) A → WideWhere {X = Y} (Err fault) W
wide-part Wide A W f h n = (λ _. f ((h (λ e. cc)).0 refl), λ _. refl)
wide-part NoMemory A W f h n = absurd (n refl)

-- a formula that was made is not wide
pub made-narrow : {X : Type 0} (x : X) (A : List (List ℕ)) → IsWideExactly (Ok x) A → ¬ formula.IsWide A
made-narrow x A h w = absurd (true≢false (ap is_ok ((h (λ e. absurd (true≢false (ap is_ok e)))).1 w)))

-- both parts are made
pub wide-neither : {X Y : Type 0} (x y : X) (z : Y) (l : Label) → IsWideExactly (Ok x) l.secrecy → IsWideExactly (Ok y) l.integrity → WideWhere (Ok z) (IsWide l)
wide-neither x y z l h k n = (
  λ e. absurd (true≢false (ap is_ok e)),
  λ w. elim w [ inl s ↦ absurd (made-narrow x l.secrecy h s) | inr i ↦ absurd (made-narrow y l.integrity k i) ],
)

-- the integrity alone may be wide
pub wide-integrity : {X : Type 0} (y : X) (z : Label) (l : Label) → ¬ formula.IsWide l.secrecy → IsWideExactly (Ok y) l.integrity → WideWhere (Ok z) (IsWide l)
wide-integrity y z l h k n = (
  λ e. absurd (true≢false (ap is_ok e)),
  λ w. elim w [ inl s ↦ absurd (h s) | inr i ↦ absurd (made-narrow y l.integrity k i) ],
)

-- a part for which memory is wanting
pub wide-wanting : {Y : Type 0} (fault : FormFault) (W : Type 0) → fault ≡ NoMemory → WideWhere {X = Y} (Err fault) W
wide-wanting fault W e n = absurd (n (ap Err e))
