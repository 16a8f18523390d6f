-- What holds of each value of a list holds of the list.
use Rattle.std.proofs.Common.{arith, ◌≡◌, subst, ap, ◌∙◌, ℕ, zero, suc, ◌<◌, ◌≤◌, List, length, get_or, All}
use Rattle.lio_values.specs.declared.value.Value.{Value}
use Rattle.lio_values.specs.Forest.{Forest, Nothing, Then, item_depth, deepest, item_height, forest_height}
use Rattle.lio_values.specs.Views.{item_of, value_of, values_of, item_of-value_of}
use Rattle.lio_events_reading.specs.Fits.{ItemFits, ItemsFit, ValueFits}

pub items_fit : (items : Forest) → All ValueFits (values_of items) → ItemsFit items
items_fit Nothing fit = tt
items_fit (Then item items) fit = (subst ItemFits (item_of-value_of item) (fit 0 (value_of item) (omega arith)), items_fit items (λ k d within. fit (suc k) d (omega arith)))

pub items_shallow : (items : Forest) → All (λ value. item_depth (item_of value) < 8) (values_of items) → deepest items < 8
items_shallow Nothing shallow = omega arith
items_shallow (Then item items) shallow =
    let first : item_depth item < 8 = subst (λ item. item_depth item < 8) (item_of-value_of item) (shallow 0 (value_of item) (omega arith)) in
    let others = items_shallow items (λ k d within. shallow (suc k) d (omega arith)) in
    omega (arith, first, others)

-- no value is higher than the list that it stands in
pub item_lower : (items : Forest) (values : List Value) (place : ℕ) (value : Value) → values ≡ values_of items → place < length values → value ≡ get_or values place value → item_height (item_of value) ≤ forest_height items
item_lower items values place value are within is = by items place value (subst (λ values. place < length values) are within) (is ∙ ap (λ values. get_or values place value) are)
  where
    by : (items : Forest) (place : ℕ) (value : Value) → place < length (values_of items) → value ≡ get_or (values_of items) place value → item_height (item_of value) ≤ forest_height items
    by Nothing place value within is = absurd (omega (arith, within))
    by (Then item items) zero value within is =
        let same : item_height (item_of value) ≡ item_height item = ap (λ value. item_height (item_of value)) is ∙ ap item_height (item_of-value_of item) in
        omega (arith, same)
    by (Then item items) (suc place) value within is = let lower = by items place value (omega (arith, within)) is in omega (arith, lower)
