use Rattle.std.proofs.Common.{◌+◌, ◌-◌, ◌*◌, All}
use Rattle.lio_values.specs.Views.{values_of}
use Rattle.lio_rows_fields.specs.Within.{IsValueWithin}
use Rattle.lio_rows_fields.proofs.values.+value.Given as goal

abbrev pub decreases-value_within : goal.decreases-value_within
decreases-value_within l = 3 * l.depth + 2

abbrev pub decreases-bare : goal.decreases-bare
decreases-bare l = 3 * l.depth + 1

abbrev pub decreases-items : goal.decreases-items
decreases-items l = 3 * l.depth

-- the items so far can be printed
abbrev pub invariant-items-loop : goal.invariant-items-loop
invariant-items-loop l = All (IsValueWithin l.names (l.depth - 1)) (values_of l.items)
