-- Two places of a list, which was split into two parts.
use Rattle.std.proofs.Common.{◌≡◌, ◌∙◌, sym, ap, ℕ, ◌<◌, ◌≤◌, ◌++◌, ◌-◌, List, length, arith}
use Rattle.std.specs.Prelude.{slice_set}
use Rattle.std.proofs.lemmas.List.{length-set, set_comm, set-append_left, set-append_right}

-- a place of the first part and the first of the second were written
pub written : {X : Type 0} (xs front back : List X) (i j : ℕ) (x y : X) → xs ≡ front ++ back → length front ≡ j → i < j → slice_set front i x ++ slice_set back 0 y ≡ slice_set (slice_set xs i x) j y
written xs front back i j x y whole front_len order =
    let within : i < length front = omega (arith, front_len, order) in
    let here : j - j ≡ 0 = omega arith in
    ap (λ k. slice_set front i x ++ slice_set back k y) (sym here)
    ∙ sym (set-append_right (slice_set front i x) back j j y (length-set front i x ∙ front_len) (omega arith))
    ∙ ap (λ zs. slice_set zs j y) (sym (set-append_left front back i x within))
    ∙ ap (λ zs. slice_set (slice_set zs i x) j y) (sym whole)

-- the first of the second part is the first place that is named
pub written-back : {X : Type 0} (xs front back : List X) (i j : ℕ) (x y : X) → xs ≡ front ++ back → length front ≡ i → j ≤ i → (i ≡ j → ⊥) → slice_set front j y ++ slice_set back 0 x ≡ slice_set (slice_set xs i x) j y
written-back xs front back i j x y whole front_len order other =
    written xs front back j i y x whole front_len (below j i order other) ∙ set_comm xs j i y x (λ e. other (sym e))
  where
    below : (m n : ℕ) → m ≤ n → (n ≡ m → ⊥) → m < n
    below m n h differ = grind arith
