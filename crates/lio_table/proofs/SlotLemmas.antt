-- Slots that all have something.
use Rattle.std.proofs.Common.{◌≡◌, ◌∙◌, refl, sym, ap, ℕ, zero, suc, ◌+◌, List, [], ◌∷◌, ◌++◌, map, take, Option, Some, None}
use Rattle.std.proofs.lemmas.List.{take_more}
use mathlib.Core.List.{map-append}
use mathlib.Core.Option.{some, some-injective, some-ne-none}
use lib.ListN.{get_elem?}
use Rattle.lio_table.proofs.Lists.{at-within}
use Rattle.lio_table.proofs.Opening.{at-or}

-- none of them has nothing
pub none-never : {T : Type 0} (all : List T) (i : ℕ) → get_elem? (map Some all) i ≡ some None → ⊥
none-never [] i is = some-ne-none None (sym is)
none-never (x ∷ all) zero is = let e = some-injective (Some x) None is in absurd (cc)
none-never (x ∷ all) (suc i) is = none-never all i is

-- one more is taken out
pub taken-more : {T : Type 0} (slots : List (Option T)) (values : List T) (i : ℕ) (value : T) → map Some values ≡ take i slots → get_elem? slots i ≡ some (Some value)
    → map Some (values ++ value ∷ []) ≡ take (i + 1) slots
taken-more slots values i value so_far is =
    map-append Some values (value ∷ []) ∙ ap (λ xs. xs ++ Some value ∷ []) so_far
    ∙ sym (take_more slots i (Some value) (at-within slots i (Some value) is) ∙ ap (λ x. take i slots ++ x ∷ []) (at-or slots i (Some value) (Some value) is))

-- what is in slots, where each has something
abbrev values-of : {T : Type 0} → List (Option T) → List T
values-of [] = []
values-of (None ∷ slots) = values-of slots
values-of (Some value ∷ slots) = value ∷ values-of slots

values-are : {T : Type 0} (values : List T) → values-of (map Some values) ≡ values
values-are [] = refl
values-are (value ∷ values) = ap (λ xs. value ∷ xs) (values-are values)

pub same-values : {T : Type 0} (one other : List T) → map Some one ≡ map Some other → one ≡ other
same-values one other same = sym (values-are one) ∙ ap values-of same ∙ values-are other
