-- What a list measures with one more value.
use Rattle.std.proofs.Common.{◌≡◌, ℕ, ◌+◌, ◌<◌, ◌≤◌, ◌++◌, List, [], ◌∷◌, length, take, get_or, Bool, true, false, ◌&&◌, max, arith, refl, ap, sym, ◌∙◌}
use Rattle.std.proofs.lemmas.List.{take_all, take_more}
use Rattle.lio_values.specs.declared.value.Value.{Value}
use Rattle.lio_values.specs.Forest.{Forest, item_depth, deepest}
use Rattle.lio_values.specs.Measures.{item_size, items_size, item_seals, items_seals, item_is_pure, items_are_pure}
use Rattle.lio_values.specs.Views.{item_of, forest_of}

deepest-more : (values : List Value) (value : Value) → deepest (forest_of (values ++ value ∷ [])) ≡ max (deepest (forest_of values)) (item_depth (item_of value))
deepest-more [] value = omega arith
deepest-more (first ∷ values) value = omega (arith, deepest-more values value)

size-more : (values : List Value) (value : Value) → items_size (forest_of (values ++ value ∷ [])) ≡ items_size (forest_of values) + item_size (item_of value)
size-more [] value = omega arith
size-more (first ∷ values) value = omega (arith, size-more values value)

seals-more : (values : List Value) (value : Value) → items_seals (forest_of (values ++ value ∷ [])) ≡ items_seals (forest_of values) + item_seals (item_of value)
seals-more [] value = omega arith
seals-more (first ∷ values) value = omega (arith, seals-more values value)

pure-more : (values : List Value) (value : Value) → items_are_pure (forest_of (values ++ value ∷ [])) ≡ (items_are_pure (forest_of values) && item_is_pure (item_of value))
pure-more [] value = all (item_is_pure (item_of value))
  where
    all : (b : Bool) → (b && true) ≡ b
    all true = refl
    all false = refl
pure-more (first ∷ values) value = ap (λ rest. item_is_pure (item_of first) && rest) (pure-more values value) ∙ turned (item_is_pure (item_of first)) _ _
  where
    turned : (a b c : Bool) → (a && (b && c)) ≡ ((a && b) && c)
    turned true b c = refl
    turned false b c = refl

-- the items of a list up to the last one are the list
pub whole : (values inside : List Value) (f : Forest) (count : ℕ) → values ≡ inside → forest_of inside ≡ f → length values ≤ count → forest_of (take count values) ≡ f
whole values inside f count same view all = ap forest_of (take_all count values all ∙ same) ∙ view

-- the items so far with the next one
module _ (values : List Value) (place : ℕ) (value : Value) (within : place < length values) (is : value ≡ get_or values place value) where
  pub next : take (place + 1) values ≡ take place values ++ value ∷ []
  next = take_more values place value within ∙ ap (λ v. take place values ++ v ∷ []) (sym is)

  pub deepest-next : deepest (forest_of (take (place + 1) values)) ≡ max (deepest (forest_of (take place values))) (item_depth (item_of value))
  deepest-next = ap (λ xs. deepest (forest_of xs)) next ∙ deepest-more (take place values) value

  pub size-next : items_size (forest_of (take (place + 1) values)) ≡ items_size (forest_of (take place values)) + item_size (item_of value)
  size-next = ap (λ xs. items_size (forest_of xs)) next ∙ size-more (take place values) value

  pub seals-next : items_seals (forest_of (take (place + 1) values)) ≡ items_seals (forest_of (take place values)) + item_seals (item_of value)
  seals-next = ap (λ xs. items_seals (forest_of xs)) next ∙ seals-more (take place values) value

  pure-next : items_are_pure (forest_of (take (place + 1) values)) ≡ (items_are_pure (forest_of (take place values)) && item_is_pure (item_of value))
  pure-next = ap (λ xs. items_are_pure (forest_of xs)) next ∙ pure-more (take place values) value

  -- with an impure one the items so far aren't pure
  pub impure-with : (now : Bool) → now ≡ false → false ≡ item_is_pure (item_of value) → now ≡ items_are_pure (forest_of (take (place + 1) values))
  impure-with now same is = same ∙ impure (items_are_pure (forest_of (take place values))) ∙ ap (λ b. items_are_pure (forest_of (take place values)) && b) is ∙ sym pure-next
    where
      impure : (b : Bool) → false ≡ (b && false)
      impure true = refl
      impure false = refl

  -- with a pure one they are as pure as before
  pub pure-with : (now before : Bool) → now ≡ before → before ≡ items_are_pure (forest_of (take place values)) → true ≡ item_is_pure (item_of value)
      → now ≡ items_are_pure (forest_of (take (place + 1) values))
  pure-with now before same so_far is = same ∙ so_far ∙ kept (items_are_pure (forest_of (take place values))) ∙ ap (λ b. items_are_pure (forest_of (take place values)) && b) is ∙ sym pure-next
    where
      kept : (b : Bool) → b ≡ (b && true)
      kept true = refl
      kept false = refl
