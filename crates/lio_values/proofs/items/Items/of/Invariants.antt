use Rattle.std.proofs.Common.{◌≡◌, take}
use Rattle.lio_values.specs.Views.{forest_of}
use Rattle.lio_values.proofs.items.Items.of.Given as goal

-- the values so far
abbrev pub invariant-loop-value : goal.invariant-loop-value
invariant-loop-value l = l.items ≡ forest_of (take l.value-index l.values)
