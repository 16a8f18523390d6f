-- Lists of which one element changes: sums, look-ups, and lists whose elements are all there.
use Rattle.std.proofs.Common.{◌≡◌, ◌∙◌, refl, sym, ap, subst, arith, ℕ, zero, suc, ◌+◌, ◌<◌, ◌≤◌, true, cond, eqb, eq-eqb, ne_eqb, List, [], ◌∷◌, length, map, set, Option, Some, count_by, sum_by}
use Rattle.std.proofs.lemmas.List.Sums.{sum_by-cons}
use mathlib.Core.Option.{some, some-injective, some-ne-none}
use lib.ListN.{get_elem?}
use Rattle.atomic_table.proofs.Lists.{set_here}

-- a function that has another value at one number
abbrev pub put : {A : Type 0} → (ℕ → A) → ℕ → A → ℕ → A
put f n a m = cond (eqb m n) a (f m)

pub put-here : {A : Type 0} (f : ℕ → A) (n : ℕ) (a : A) → put f n a n ≡ a
put-here f n a = ap (λ b. cond b a (f n)) (eq-eqb n n refl)

pub put-else : {A : Type 0} (f : ℕ → A) (n : ℕ) (a : A) (m : ℕ) → (m ≡ n → ⊥) → put f n a m ≡ f m
put-else f n a m other = ap (λ b. cond b a (f m)) (ne_eqb m n other)

module _ {X : Type 0} where
  pub at-within : (xs : List X) (i : ℕ) (x : X) → get_elem? xs i ≡ some x → i < length xs
  at-within [] i x is = absurd (some-ne-none x (sym is))
  at-within (y ∷ xs) zero x is = omega arith
  at-within (y ∷ xs) (suc i) x is = let within = at-within xs i x is in omega (arith, within)

  pub at-one : (xs : List X) (i : ℕ) (x y : X) → get_elem? xs i ≡ some x → get_elem? xs i ≡ some y → x ≡ y
  at-one xs i x y is is' = some-injective x y (sym is ∙ is')

  pub at-set : (xs : List X) (i : ℕ) (x y : X) → get_elem? xs i ≡ some x → get_elem? (set xs i y) i ≡ some y
  at-set xs i x y is = set_here xs i y (at-within xs i x is)

  pub there : (xs : List X) (i : ℕ) → i < length xs → (x : X) × (get_elem? xs i ≡ some x)
  there [] i within = absurd (omega arith)
  there (x ∷ xs) zero within = (x, refl)
  there (x ∷ xs) (suc i) within = there xs i (omega arith)

module _ {X : Type 0} (f : X → ℕ) where
  pub sum-set : (xs : List X) (at : ℕ) (v w : X) → get_elem? xs at ≡ some v → sum_by f (set xs at w) + f v ≡ sum_by f xs + f w
  sum-set [] at v w is = absurd (some-ne-none v (sym is))
  sum-set (x ∷ xs) zero v w is = let same : f x ≡ f v = ap f (some-injective x v is) in let one = sum_by-cons f w xs in let two = sum_by-cons f x xs in omega (arith, same, one, two)
  sum-set (x ∷ xs) (suc at) v w is = let rest = sum-set xs at v w is in let one = sum_by-cons f x (set xs at w) in let two = sum_by-cons f x xs in omega (arith, rest, one, two)

  pub sum-has : (xs : List X) (at : ℕ) (v : X) → get_elem? xs at ≡ some v → f v ≤ sum_by f xs
  sum-has [] at v is = absurd (some-ne-none v (sym is))
  sum-has (x ∷ xs) zero v is = let same : f x ≡ f v = ap f (some-injective x v is) in let one = sum_by-cons f x xs in omega (arith, same, one)
  sum-has (x ∷ xs) (suc at) v is = let rest = sum-has xs at v is in let one = sum_by-cons f x xs in omega (arith, rest, one)

  pub sum-has_two : (xs : List X) (i j : ℕ) (v w : X) → get_elem? xs i ≡ some v → get_elem? xs j ≡ some w → (j ≡ i → ⊥) → f v + f w ≤ sum_by f xs
  sum-has_two [] i j v w is is' other = absurd (some-ne-none v (sym is))
  sum-has_two (x ∷ xs) zero zero v w is is' other = absurd (other refl)
  sum-has_two (x ∷ xs) zero (suc j) v w is is' other = let same : f x ≡ f v = ap f (some-injective x v is) in let rest = sum-has xs j w is' in let one = sum_by-cons f x xs in omega (arith, same, rest, one)
  sum-has_two (x ∷ xs) (suc i) zero v w is is' other = let same : f x ≡ f w = ap f (some-injective x w is') in let rest = sum-has xs i v is in let one = sum_by-cons f x xs in omega (arith, same, rest, one)
  sum-has_two (x ∷ xs) (suc i) (suc j) v w is is' other = let rest = sum-has_two xs i j v w is is' (λ e. other (ap suc e)) in let one = sum_by-cons f x xs in omega (arith, rest, one)

  sum-none : (xs : List X) → ((j : ℕ) (w : X) → get_elem? xs j ≡ some w → f w ≡ 0) → sum_by f xs ≡ 0
  sum-none [] none = refl
  sum-none (x ∷ xs) none = let here = none 0 x refl in let rest = sum-none xs (λ j w is. none (suc j) w is) in let one = sum_by-cons f x xs in omega (arith, here, rest, one)

  pub sum-sole : (xs : List X) (i : ℕ) (v : X) → get_elem? xs i ≡ some v → ((j : ℕ) (w : X) → (j ≡ i → ⊥) → get_elem? xs j ≡ some w → f w ≡ 0) → sum_by f xs ≡ f v
  sum-sole [] i v is none = absurd (some-ne-none v (sym is))
  sum-sole (x ∷ xs) zero v is none =
      let same : f x ≡ f v = ap f (some-injective x v is) in
      let rest = sum-none xs (λ j w at. none (suc j) w (λ e. omega arith) at) in
      let one = sum_by-cons f x xs in omega (arith, same, rest, one)
  sum-sole (x ∷ xs) (suc i) v is none =
      let here = none 0 x (λ e. omega arith) refl in
      let rest = sum-sole xs i v is (λ j w other at. none (suc j) w (λ e. other (omega arith)) at) in
      let one = sum_by-cons f x xs in omega (arith, here, rest, one)

pub sum-plus : {X : Type 0} (f g : X → ℕ) (xs : List X) → sum_by (λ x. f x + g x) xs ≡ sum_by f xs + sum_by g xs
sum-plus f g [] = refl
sum-plus f g (x ∷ xs) =
    let rest = sum-plus f g xs in let one = sum_by-cons (λ y. f y + g y) x xs in let two = sum_by-cons f x xs in let three = sum_by-cons g x xs in omega (arith, rest, one, two, three)

pub count-all : {X : Type 0} (xs : List X) → count_by (λ x. true) xs ≡ length xs
count-all [] = refl
count-all (x ∷ xs) = let rest = count-all xs in let one = sum_by-cons (λ y. 1) x xs in omega (arith, rest, one)

-- where each place of a list of options has something, it is a list of such things
pub record AllThere {X : Type 0} (P : ℕ → X → Type 0) (xs : List (Option X)) : Type 0 where
  pub items : List X
  pub full : xs ≡ map Some items
  pub each : (n : ℕ) (x : X) → get_elem? items n ≡ some x → P n x

pub all-there : {X : Type 0} (P : ℕ → X → Type 0) (xs : List (Option X)) → ((n : ℕ) → n < length xs → (x : X) × (get_elem? xs n ≡ some (Some x)) × P n x) → AllThere P xs
all-there P [] each = record { items = []; full = refl; each = λ n x is. absurd (some-ne-none x (sym is)) }
all-there {X} P (x ∷ xs) each = by (each 0 (omega arith)) (all-there (λ n. P (suc n)) xs (λ n within. each (suc n) (omega arith)))
  where
    by : (y : X) × (get_elem? (x ∷ xs) 0 ≡ some (Some y)) × P 0 y → AllThere (λ n. P (suc n)) xs → AllThere P (x ∷ xs)
    by (y, is, holds) rest = record {
      items = y ∷ rest.items;
      full = λ i. some-injective x (Some y) is i ∷ rest.full i;
      each = at;
    }
      where
        at : (n : ℕ) (z : X) → get_elem? (y ∷ rest.items) n ≡ some z → P n z
        at zero z at-z = subst (P 0) (some-injective y z at-z) holds
        at (suc n) z at-z = rest.each n z at-z
