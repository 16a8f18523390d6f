-- Lists of values, by their values.
use Rattle.std.proofs.Common.{◌≡◌, ℕ, zero, suc, Bool, true, false, ◌≤◌, length, get_or, take, drop, map, cond, All, refl, ◌<◌, ◌+◌, ◌*◌, ◌++◌, List, [], ◌∷◌, max, arith, subst, sym, ap, Result, Ok, Err, OnOk, OnErr, ◌∙◌}
use Rattle.lio_values.specs.declared.value.Plain.{Plain}
use Rattle.lio_values.specs.declared.value.Plain.TheVariants.{Items}
use Rattle.lio_labels.specs.declared.label.Label.{Label}
use Rattle.lio_labels.specs.Flow.{flows}
use Rattle.lio_values.specs.declared.value.Content.{Content}
use Rattle.lio_values.specs.declared.value.Content.TheVariants as content
use Rattle.lio_values.specs.declared.value.Value.{Value}
use Rattle.lio_values.specs.declared.value.Value.TheVariants as value
use Rattle.std.proofs.lemmas.List.{take_all, take_more}
use Rattle.lio_values.specs.declared.items.Items.TheDeep.{deep-Value, size-Plain}
use Rattle.lio_values.specs.Falls.{value_falls}
use Rattle.lio_values.specs.SameForest.{same_forest, same_forest-is, same_forest-itself}
use Rattle.lio_values.specs.Forest as forest
use Rattle.lio_values.specs.Forest.{Tree, Item, Forest, Nothing, Then, tree_depth, item_depth, deepest, forest_height}
use Rattle.lio_values.specs.Erasure.{erase_content, erase_tree, erase_item, erase_forest, erase_plain, erase_value}
use Rattle.lio_values.specs.Views.{tree_of, inner_of, item_of, forest_of, values_of, values_of-forest_of, tree_of-plain_of}

-- with one more value a list is of depth at most 8, where both were
deepest-last : (values : List Value) (value : Value) → deepest (forest_of values) < 8 → item_depth (item_of value) < 8
    → deepest (forest_of (values ++ value ∷ [])) < 8
deepest-last [] value before fits = omega (arith, fits)
deepest-last (first ∷ values) value before fits =
    omega (arith, deepest-last values value (omega (arith, before)) fits, before)

pub pushed-depth : {T E : Type 0} (r : Result T E) (new old : List Value) (value : Value) → OnOk r (new ≡ old ++ value ∷ []) → OnErr r (new ≡ old)
    → deepest (forest_of old) < 8 → item_depth (item_of value) < 8 → deepest (forest_of new) < 8
pushed-depth (Ok done) new old value ok err before fits = subst (λ values. deepest (forest_of values) < 8) (sym ok) (deepest-last old value before fits)
pushed-depth (Err e) new old value ok err before fits = subst (λ values. deepest (forest_of values) < 8) (sym err) before

pub pushed : {T E : Type 0} (r : Result T E) (new old : List Value) (before : Forest) (value : Value) → OnOk r (new ≡ old ++ value ∷ []) → forest_of old ≡ before
    → OnOk r (forest_of new ≡ forest_of (values_of before ++ value ∷ []))
pushed (Ok done) new old before value ok same =
    ap forest_of (ok ∙ ap (λ values. values ++ value ∷ []) (sym (values_of-forest_of old) ∙ ap values_of same))
pushed (Err e) new old before value ok same = tt

value-height : (values : List Value) (place : ℕ) (other : Value) → place < length values → deep-Value (get_or values place other) ≤ forest_height (forest_of values)
value-height [] place other within = absurd (omega (arith, within))
value-height (value ∷ values) zero other within = omega (arith, value_falls value)
value-height (value ∷ values) (suc place) other within = omega (arith, value-height values place other (omega (arith, within)))

-- a value that stands at a place of a list is of at most the list's height
pub item-height : (xs values : List Value) (f : Forest) (place : ℕ) (value : Value) → xs ≡ values → forest_of values ≡ f → place < length xs → value ≡ get_or xs place value
    → deep-Value value ≤ forest_height f
item-height xs values f place value same view within is =
    let heights : forest_height (forest_of xs) ≡ forest_height f = ap (λ items. forest_height (forest_of items)) same ∙ ap forest_height view in
    omega (arith, heights, value-height xs place value within, ap deep-Value is)

module _ (xs ys : List Value) (a b : Forest) (first : forest_of xs ≡ a) (second : forest_of ys ≡ b) where
  pub alike : xs ≡ ys → true ≡ same_forest a b
  alike same = sym (subst (λ f. same_forest a f ≡ true) (sym first ∙ ap forest_of same ∙ second) (same_forest-itself a))

  pub unlike : (xs ≡ ys → ⊥) → false ≡ same_forest a b
  unlike other = told (same_forest a b) (λ e. other (sym (values_of-forest_of xs) ∙ ap values_of (first ∙ same_forest-is a b e ∙ sym second) ∙ values_of-forest_of ys))
    where
      told : (t : Bool) → (t ≡ true → ⊥) → false ≡ t
      told true differs = absurd (differs refl)
      told false differs = refl

-- what stands at one place of one list is the same
pub at-place : (xs : List Value) (place : ℕ) (v w : Value) → place < length xs → v ≡ get_or xs place v → w ≡ get_or xs place w → v ≡ w
at-place [] place v w within first second = absurd (omega (arith, within))
at-place (x ∷ xs) zero v w within first second = first ∙ sym second
at-place (x ∷ xs) (suc place) v w within first second = at-place xs place v w (omega (arith, within)) first second

-- lists of one length that begin with as many items as they have are the same
pub taken : (xs ys : List Value) (count : ℕ) → take count xs ≡ take count ys → length xs ≤ count → length xs ≡ length ys → xs ≡ ys
taken xs ys count same all lengths = sym (take_all count xs all) ∙ same ∙ take_all count ys (omega (arith, all, lengths))

-- the lists in two plain values are less than the plain values
pub smaller : (one other : Plain) (f g : Forest) (t : ℕ) → one ≡ Items f → other ≡ Items g → max (size-Plain one) (size-Plain other) ≡ t
    → 6 * (max (forest_height f) (forest_height g) + 1) < t
smaller one other f g t first second size =
    let left : size-Plain one ≡ 6 * max (forest_height f + 1) 0 + 1 = ap size-Plain first in
    let right : size-Plain other ≡ 6 * max (forest_height g + 1) 0 + 1 = ap size-Plain second in
    omega (arith, left, right, size)

-- lists that begin with the same items, and then have the same item, begin with the same items and this one
pub one-more : (xs ys : List Value) (place : ℕ) (v w : Value) → take place xs ≡ take place ys → place < length xs → length xs ≡ length ys
    → v ≡ get_or xs place v → w ≡ get_or ys place w → v ≡ w → take (place + 1) xs ≡ take (place + 1) ys
one-more xs ys place v w same within lengths first second even =
    let next : suc place ≡ place + 1 = omega arith in
    subst (λ n. take n xs ≡ take n ys) next (more xs ys place v w same within (omega (arith, within, lengths)) first second even)
  where
    more : (xs ys : List Value) (place : ℕ) (v w : Value) → take place xs ≡ take place ys → place < length xs → place < length ys
        → v ≡ get_or xs place v → w ≡ get_or ys place w → v ≡ w → take (suc place) xs ≡ take (suc place) ys
    more [] ys place v w same within other first second even = absurd (omega (arith, within))
    more (x ∷ xs) [] place v w same within other first second even = absurd (omega (arith, other))
    more (x ∷ xs) (y ∷ ys) zero v w same within other first second even = ap (λ z. z ∷ []) (sym first ∙ even ∙ second)
    more (x ∷ xs) (y ∷ ys) (suc place) v w same within other first second even =
        let heads : x ≡ y = ap (λ zs. get_or zs 0 x) same in
        let tails : take place xs ≡ take place ys = ap (drop 1) same in
        let rest : take (suc place) xs ≡ take (suc place) ys = more xs ys place v w tails (omega (arith, within)) (omega (arith, other)) first second even in
        λ i. heads i ∷ rest i

-- ---- erasing each value of a list

erased-tree : (observer : Label) (plain : Plain) → tree_of (erase_plain observer plain) ≡ erase_tree observer (tree_of plain)
erased-tree observer plain = tree_of-plain_of (erase_tree observer (tree_of plain))

erased-item : (observer : Label) (value : Value) → item_of (erase_value observer value) ≡ erase_item observer (item_of value)
unfolding erase_content
erased-item observer (value.Bare plain) = ap forest.Bare (erased-tree observer plain)
erased-item observer (value.Sealed label held) = ap (forest.Sealed label) (hidden (flows label observer) held)
  where
    hidden : (seen : Bool) (c : Content) → inner_of (cond seen c content.Hidden) ≡ cond seen (inner_of c) forest.Hidden
    hidden true c = refl
    hidden false c = refl

pub erased-items : (observer : Label) (values : List Value) → forest_of (map (erase_value observer) values) ≡ erase_forest observer (forest_of values)
erased-items observer [] = refl
erased-items observer (value ∷ values) = λ i. Then (erased-item observer value i) (erased-items observer values i)

-- an erasure is of the same depth
mutual
  tree-depth : (observer : Label) (tree : Tree) → tree_depth (erase_tree observer tree) ≡ tree_depth tree
  tree-depth observer (forest.Items items) = ap (λ n. n + 1) (erased-deepest observer items)
  tree-depth observer forest.Unit = refl
  tree-depth observer (forest.Flag flag) = refl
  tree-depth observer (forest.Whole number) = refl
  tree-depth observer (forest.Bytes text) = refl
  tree-depth observer (forest.Lab label) = refl
  tree-depth observer (forest.Power privilege) = refl
  tree-depth observer (forest.RefOf handle) = refl
  tree-depth observer (forest.VarOf handle) = refl
  tree-depth observer (forest.ResultOf handle) = refl
  tree-depth observer (forest.ChanOf handle) = refl

  item-depth : (observer : Label) (item : Item) → item_depth (erase_item observer item) ≡ item_depth item
  item-depth observer (forest.Bare tree) = tree-depth observer tree
  item-depth observer (forest.Sealed label inner) = refl

  pub erased-deepest : (observer : Label) (items : Forest) → deepest (erase_forest observer items) ≡ deepest items
  erased-deepest observer Nothing = refl
  erased-deepest observer (Then item items) = λ i. max (item-depth observer item i) (erased-deepest observer items i)

-- as many values erased as there are
pub erased-whole : (observer : Label) (made items values : List Value) (count : ℕ) → made ≡ map (erase_value observer) (take count items) → length items ≤ count → items ≡ values
    → made ≡ map (erase_value observer) values
erased-whole observer made items values count same all is = same ∙ ap (map (erase_value observer)) (take_all count items all ∙ is)

-- so the erasure of a list's values is of depth at most 8
pub erased-fits : (observer : Label) (made values : List Value) → made ≡ map (erase_value observer) values → deepest (forest_of values) < 8 → deepest (forest_of made) < 8
erased-fits observer made values same fits =
    let depths : deepest (forest_of made) ≡ deepest (forest_of values) =
    ap (λ xs. deepest (forest_of xs)) same ∙ ap deepest (erased-items observer values) ∙ erased-deepest observer (forest_of values) in
    omega (arith, depths, fits)

-- each value of a list of depth at most 8 is of less depth
pub shallow : (values given : List Value) → values ≡ given → deepest (forest_of given) < 8 → All (λ value. item_depth (item_of value) < 8) values
shallow values given same fits = subst (All (λ value. item_depth (item_of value) < 8)) (sym same) (each given fits)
  where
    each : (given : List Value) → deepest (forest_of given) < 8 → All (λ value. item_depth (item_of value) < 8) given
    each [] fits k d within = absurd (omega (arith, within))
    each (value ∷ values) fits zero d within = omega (arith, fits)
    each (value ∷ values) fits (suc k) d within = each values (omega (arith, fits)) k d (omega (arith, within))

-- a list of the values so far, with a copy of the next one last, is that of one value more
pub made-more : (values : List Value) (place : ℕ) (value copy : Value) (new old : Forest) → old ≡ forest_of (take place values) → new ≡ forest_of (values_of old ++ copy ∷ [])
    → copy ≡ value → value ≡ get_or values place value → place < length values → new ≡ forest_of (take (place + 1) values)
made-more values place value copy new old before made same is within =
    let front : values_of old ≡ take place values = ap values_of before ∙ values_of-forest_of (take place values) in
    let last : copy ≡ get_or values place value = same ∙ is in
    made ∙ ap forest_of ((λ i. front i ++ last i ∷ []) ∙ sym (take_more values place value within))
