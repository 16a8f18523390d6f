-- What is known of each value of a list is known of the list.
use Rattle.std.proofs.Common.{ℕ, ◌-◌, ◌≤◌, suc, All, IsTrue, List, refl, subst, arith}
use Rattle.lio_values.specs.declared.value.Value.{Value}
use Rattle.lio_values.specs.Forest.{Item, Forest, Nothing, Then, item_depth, deepest}
use Rattle.lio_values.specs.ForestText.{IsItemNamed, AreItemsNamed}
use Rattle.lio_values.specs.Measures.{item_is_pure, items_are_pure}
use Rattle.lio_values.specs.Purity.{KeepsPureItem, KeepPureItems}
use Rattle.lio_values.specs.Views.{item_of, value_of, values_of, item_of-value_of}
use Rattle.lio_rows_fields.specs.Within.{IsPureWithin, IsValueWithin, list, list_value}

-- an item of a pure list
abbrev pub IsPureItem : List (List ℕ) → ℕ → Value → Type 0
IsPureItem names depth value = (IsItemNamed names (item_of value) × IsTrue (item_is_pure (item_of value))) × (item_depth (item_of value) ≤ depth)

pures : (names : List (List ℕ)) (depth : ℕ) (items : Forest) → All (IsPureItem names depth) (values_of items) → AreItemsNamed names items × IsTrue (items_are_pure items) × (deepest items ≤ depth)
pures names depth Nothing all = (tt, refl, omega arith)
pures names depth (Then item items) all =
    let first = subst (λ (i : Item). (IsItemNamed names i × IsTrue (item_is_pure i)) × (item_depth i ≤ depth)) (item_of-value_of item) (all 0 (value_of item) (omega arith)) in
    let others = pures names depth items (λ k d within. all (suc k) d (omega (arith, within))) in
    ((first.0.0, others.0), rw (first.0.1) others.1, omega (arith, first.1, others.2))

pub pures_within : (names : List (List ℕ)) (depth : ℕ) (items : Forest) → 1 ≤ depth → All (IsPureItem names (depth - 1)) (values_of items) → IsPureWithin names depth (list items)
pures_within names depth items some all = let known = pures names (depth - 1) items all in ((known.0, known.1), omega (arith, known.2, some))

values : (names : List (List ℕ)) (depth : ℕ) (items : Forest) → All (IsValueWithin names depth) (values_of items) → AreItemsNamed names items × KeepPureItems items × (deepest items ≤ depth)
values names depth Nothing all = (tt, tt, omega arith)
values names depth (Then item items) all =
    let first = subst (λ (i : Item). (IsItemNamed names i × KeepsPureItem i) × (item_depth i ≤ depth)) (item_of-value_of item) (all 0 (value_of item) (omega arith)) in
    let others = values names depth items (λ k d within. all (suc k) d (omega (arith, within))) in
    ((first.0.0, others.0), (first.0.1, others.1), omega (arith, first.1, others.2))

pub values_within : (names : List (List ℕ)) (depth : ℕ) (items : Forest) → 1 ≤ depth → All (IsValueWithin names (depth - 1)) (values_of items) → IsValueWithin names depth (list_value items)
values_within names depth items some all = let known = values names (depth - 1) items all in ((known.0, known.1), omega (arith, known.2, some))
