use Rattle.std.proofs.Common.{◌≡◌, ◌++◌, take}
use Rattle.lio_values.specs.Views.{forest_of, values_of}
use Rattle.lio_operators.proofs.lists.joined.Given as goal

-- the one list, and behind it the items of the other so far
abbrev pub invariant-loop-value : goal.invariant-loop-value
invariant-loop-value l = l.list ≡ forest_of (values_of l.a ++ take l.value-index l.value-items)
