-- The first place at which a text stands in another.
use Rattle.std.proofs.Common.{◌≡◌, ℕ, zero, suc, ◌<◌, ◌≤◌, Bool, true, false, List, [], ◌∷◌, length, take, drop, refl, ap, sym, arith, ◌∙◌, Option, Some, None, length-take, length-drop}
use Rattle.std.proofs.lemmas.Bool.{cond-true, cond-false}
use Rattle.std.proofs.lemmas.Slice.Eq.{bytes_eq-Decides}
use Rattle.memchr.specs.Find.{OccursAt, FindsNeedle}
use Rattle.memchr.proofs.lemmas.MatchLemmas.{OccursAt-part, OccursAt-from_part}
use Rattle.lio_operators.specs.Texts.{begins_with, first_place}

-- a text begins at a place with another where that stands there
occurs-begins : (text part : List ℕ) (at : ℕ) → OccursAt text part at → begins_with part (drop at text) ≡ true
occurs-begins text part at h = (bytes_eq-Decides _ part).1 (OccursAt-part text part at h)

begins-occurs : (text part : List ℕ) (at : ℕ) → at ≤ length text → begins_with part (drop at text) ≡ true → OccursAt text part at
begins-occurs text part at inside h =
    let e : take (length part) (drop at text) ≡ part = (bytes_eq-Decides _ part).0 h in
    OccursAt-from_part text part at (omega (arith, length-take (length part) (drop at text), length-drop at text, ap length e)) e

-- where it doesn't stand
absent : (text part : List ℕ) (at : ℕ) → at ≤ length text → ¬ OccursAt text part at → begins_with part (drop at text) ≡ false
absent text part at inside not = by (begins_with part (drop at text)) refl
  where
    by : (b : Bool) → begins_with part (drop at text) ≡ b → begins_with part (drop at text) ≡ false
    by true e = absurd (not (begins-occurs text part at inside e))
    by false e = e

found : (part text : List ℕ) (at : ℕ) → begins_with part (drop at text) ≡ true → at ≤ length text → ((j : ℕ) → j < at → begins_with part (drop j text) ≡ false) → first_place part text ≡ Some at
unfolding first_place
found part [] zero here inside before = cond-true _ _ _ here
found part [] (suc at) here inside before = absurd (omega arith)
found part (byte ∷ bytes) zero here inside before = cond-true _ _ _ here
found part (byte ∷ bytes) (suc at) here inside before =
    let rest : first_place part bytes ≡ Some at = found part bytes at here (omega arith) (λ j below. before (suc j) (omega arith)) in
    cond-false _ _ _ (before 0 (omega arith)) ∙ (rw rest refl)

nowhere : (part text : List ℕ) → ((j : ℕ) → j ≤ length text → begins_with part (drop j text) ≡ false) → first_place part text ≡ None
unfolding first_place
nowhere part [] before = cond-false _ _ _ (before 0 (omega arith))
nowhere part (byte ∷ bytes) before =
    let rest : first_place part bytes ≡ None = nowhere part bytes (λ j inside. before (suc j) (omega arith)) in
    cond-false _ _ _ (before 0 (omega arith)) ∙ (rw rest refl)

-- what is found by a search
pub first_place_found : (part text : List ℕ) (r : Option ℕ) → FindsNeedle text part 0 r → r ≡ first_place part text
first_place_found part text None none = sym (nowhere part text (λ j inside. absent text part j inside (none j (omega arith) (omega arith))))
first_place_found part text (Some at) (first, here) =
    sym (found part text at (occurs-begins text part at here) (omega (arith, here.fits)) (λ j below. absent text part j (omega (arith, here.fits)) (first.before j (omega arith) below)))
