-- The text of a list with one more value, and the names in its values.
use Rattle.std.proofs.Common.{◌≡◌, ◌∙◌, ℕ, zero, suc, ◌<◌, ◌+◌, All, List, [], ◌∷◌, ◌++◌, codes, take, length, get_or, refl, ap, sym, subst, arith, append_assoc}
use Rattle.lio_values.specs.declared.value.Value.{Value}
use Rattle.lio_values.specs.Forest.{Forest}
use Rattle.lio_values.specs.ForestText.{item_text, items_text, further_text, AreItemsNamed}
use Rattle.lio_values.specs.Named.{IsValueNamed}
use Rattle.lio_values.specs.Views.{item_of, forest_of}
use Rattle.lio_values.proofs.MeasureLemmas.{next}

-- what stands before the next item
abbrev pub joint : List Value → List ℕ
joint [] = []
joint (value ∷ values) = codes ", "

append-nil : (xs : List ℕ) → xs ++ [] ≡ xs
append-nil [] = refl
append-nil (x ∷ xs) = ap (λ rest. x ∷ rest) (append-nil xs)

further-more : (names : List (List ℕ)) (values : List Value) (value : Value)
    → further_text names (forest_of (values ++ value ∷ [])) ≡ further_text names (forest_of values) ++ (codes ", " ++ item_text names (item_of value))
further-more names [] value = ap (λ text. codes ", " ++ text) (append-nil (item_text names (item_of value)))
further-more names (first ∷ values) value =
    ap (λ text. codes ", " ++ (item_text names (item_of first) ++ text)) (further-more names values value)
    ∙ ap (λ text. codes ", " ++ text) (sym (append_assoc (item_text names (item_of first)) (further_text names (forest_of values)) _))
    ∙ sym (append_assoc (codes ", ") (item_text names (item_of first) ++ further_text names (forest_of values)) _)

pub items-more : (names : List (List ℕ)) (values : List Value) (value : Value)
    → items_text names (forest_of (values ++ value ∷ [])) ≡ items_text names (forest_of values) ++ (joint values ++ item_text names (item_of value))
items-more names [] value = append-nil (item_text names (item_of value))
items-more names (first ∷ values) value =
    ap (λ text. item_text names (item_of first) ++ text) (further-more names values value)
    ∙ sym (append_assoc (item_text names (item_of first)) (further_text names (forest_of values)) _)

-- the items so far with the next one
module _ (values : List Value) (place : ℕ) (value : Value) (within : place < length values) (is : value ≡ get_or values place value) where
  one_more : take (place + 1) values ≡ take place values ++ value ∷ []
  one_more = next values place value within is

  pub text-more : (names : List (List ℕ)) (out before between joined after : List ℕ) → before ≡ out ++ items_text names (forest_of (take place values))
      → between ≡ joint (take place values) → joined ≡ before ++ between → after ≡ joined ++ item_text names (item_of value)
      → after ≡ out ++ items_text names (forest_of (take (place + 1) values))
  text-more names out before between joined after front gap middle last =
      let text : List ℕ = item_text names (item_of value) in
      let so_far : List ℕ = items_text names (forest_of (take place values)) in
      let behind : List ℕ = joint (take place values) in
      let whole : items_text names (forest_of (take (place + 1) values)) ≡ so_far ++ (behind ++ text) =
      ap (λ xs. items_text names (forest_of xs)) one_more ∙ items-more names (take place values) value in
      last ∙ ap (λ xs. xs ++ text) (middle ∙ (λ i. front i ++ gap i)) ∙ append_assoc (out ++ so_far) behind text ∙ append_assoc out so_far (behind ++ text)
      ∙ ap (λ xs. out ++ xs) (sym whole)

  -- behind an item comes `, `
  pub joint-more : codes ", " ≡ joint (take (place + 1) values)
  joint-more = sym (ap joint one_more ∙ behind (take place values))
    where
      behind : (values : List Value) → joint (values ++ value ∷ []) ≡ codes ", "
      behind [] = refl
      behind (first ∷ values) = refl

-- each value of a list whose values are named
pub values-named : (names : List (List ℕ)) (values : List Value) (items : Forest) → forest_of values ≡ items → AreItemsNamed names items → All (IsValueNamed names) values
values-named names values items is named = each values (subst (AreItemsNamed names) (sym is) named)
  where
    each : (values : List Value) → AreItemsNamed names (forest_of values) → All (IsValueNamed names) values
    each [] named k d within = absurd (omega (arith, within))
    each (value ∷ values) named zero d within = named.0
    each (value ∷ values) named (suc k) d within = each values named.1 k d (omega (arith, within))
