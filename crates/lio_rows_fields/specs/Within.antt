-- Values that can be printed, up to a depth of lists.
use Rattle.std.specs.Prelude.{ℕ, ◌≤◌, List, IsTrue}
use Rattle.lio_values.specs.declared.value.Plain.{Plain}
use Rattle.lio_values.specs.declared.value.Plain.TheVariants.{Unit as unit, Flag, Whole, Bytes, Lab, Power, RefOf, VarOf, ResultOf, ChanOf, Items}
use Rattle.lio_values.specs.declared.value.Value.{Value}
use Rattle.lio_values.specs.declared.value.Value.TheVariants.{Bare}
use Rattle.lio_values.specs.Forest.{Forest, tree_depth}
use Rattle.lio_values.specs.Measures.{is_pure, value_depth}
use Rattle.lio_values.specs.PlainText.{IsPlainNamed}
use Rattle.lio_values.specs.Views.{tree_of}
use Rattle.lio_rows_fields.specs.Turns.{CanPrintValue}

-- a plain value that is no list
abbrev pub IsSingle : Plain → Type 0
IsSingle (Items items) = ⊥
IsSingle unit = Unit {0}
IsSingle (Flag flag) = Unit {0}
IsSingle (Whole number) = Unit {0}
IsSingle (Bytes text) = Unit {0}
IsSingle (Lab label) = Unit {0}
IsSingle (Power privilege) = Unit {0}
IsSingle (RefOf handle) = Unit {0}
IsSingle (VarOf handle) = Unit {0}
IsSingle (ResultOf handle) = Unit {0}
IsSingle (ChanOf handle) = Unit {0}

-- a list as a plain value, and as a value
abbrev pub list : Forest → Plain
list items = Items items

abbrev pub list_value : Forest → Value
list_value items = Bare (list items)

-- a pure value of at most this depth
abbrev pub IsPureWithin : List (List ℕ) → ℕ → Plain → Type 0
IsPureWithin names depth plain = (IsPlainNamed names plain × IsTrue (is_pure plain)) × (tree_depth (tree_of plain) ≤ depth)

-- a value of at most this depth
abbrev pub IsValueWithin : List (List ℕ) → ℕ → Value → Type 0
IsValueWithin names depth value = CanPrintValue names value × (value_depth value ≤ depth)
