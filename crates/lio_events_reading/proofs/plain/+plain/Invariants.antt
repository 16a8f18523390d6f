use Rattle.std.proofs.Common.{◌≡◌, ◌+◌, ◌-◌, ◌*◌, ◌++◌, ◌≤◌, ℕ, List, All, length}
use Rattle.lio_values.specs.declared.value.Value.{Value}
use Rattle.lio_values.specs.ValueText.{value_text}
use Rattle.lio_values.specs.Views.{forest_of, values_of}
use Rattle.lio_events_reading.specs.Values.{list_value}
use Rattle.lio_events_reading.proofs.ListLemmas.{Left, IsPureItem}
use Rattle.lio_events_reading.proofs.plain.+plain.Given as goal

abbrev pub decreases-plain_within : goal.decreases-plain_within
decreases-plain_within l = 2 * l.depth + 1

abbrev pub decreases-pure_items : goal.decreases-pure_items
decreases-pure_items l = 2 * l.depth

-- the items so far, and those that are left, wherever the bytes are the text of a list
abbrev pub invariant-pure_items-items : goal.invariant-pure_items-items
invariant-pure_items-items l =
    ((all : List Value) (rest : List ℕ) → All (IsPureItem l.names (l.depth - 1)) all → l.fn.text ≡ value_text l.names (list_value (forest_of all)) ++ rest
    → Left l.names (IsPureItem l.names (l.depth - 1)) (values_of l.items) l.text all rest) × All (IsPureItem l.names (l.depth - 1)) (values_of l.items) × (length l.text ≤ length l.fn.text)

abbrev pub decreases-pure_items-items : goal.decreases-pure_items-items
decreases-pure_items-items l = length l.text
