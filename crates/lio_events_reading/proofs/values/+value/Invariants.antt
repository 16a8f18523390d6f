use Rattle.std.proofs.Common.{◌≡◌, ◌+◌, ◌-◌, ◌*◌, ◌++◌, ◌≤◌, ℕ, List, All, length}
use Rattle.lio_values.specs.declared.value.Value.{Value}
use Rattle.lio_values.specs.ValueText.{value_text}
use Rattle.lio_values.specs.Views.{forest_of, values_of}
use Rattle.lio_events_reading.specs.Over.{IsValueWithin}
use Rattle.lio_events_reading.specs.Values.{list_value}
use Rattle.lio_events_reading.proofs.ListLemmas.{Left}
use Rattle.lio_events_reading.proofs.values.+value.Given as goal

abbrev pub decreases-value_within : goal.decreases-value_within
decreases-value_within l = 2 * l.depth + 1

abbrev pub decreases-items : goal.decreases-items
decreases-items l = 2 * l.depth

-- the items so far, and those that are left, wherever the bytes are the text of a list
abbrev pub invariant-items-items : goal.invariant-items-items
invariant-items-items l =
    ((all : List Value) (rest : List ℕ) → All (IsValueWithin l.names (l.depth - 1)) all → l.fn.text ≡ value_text l.names (list_value (forest_of all)) ++ rest
    → Left l.names (IsValueWithin l.names (l.depth - 1)) (values_of l.items) l.text all rest) × All (IsValueWithin l.names (l.depth - 1)) (values_of l.items) × (length l.text ≤ length l.fn.text)

abbrev pub decreases-items-items : goal.decreases-items-items
decreases-items-items l = length l.text
