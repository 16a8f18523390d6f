use Rattle.std.proofs.Common.{◌+◌, ◌-◌, ◌*◌, All}
use Rattle.lio_values.specs.Views.{values_of}
use Rattle.lio_rows_fields.proofs.ListLemmas.{IsPureItem}
use Rattle.lio_rows_fields.proofs.values.+plain.Given as goal

abbrev pub decreases-plain_within : goal.decreases-plain_within
decreases-plain_within l = 2 * l.depth + 1

abbrev pub decreases-pure_items : goal.decreases-pure_items
decreases-pure_items l = 2 * l.depth

-- the items so far are pure
abbrev pub invariant-pure_items-loop : goal.invariant-pure_items-loop
invariant-pure_items-loop l = All (IsPureItem l.names (l.depth - 1)) (values_of l.items)
