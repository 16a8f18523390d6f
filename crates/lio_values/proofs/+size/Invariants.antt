use Rattle.std.proofs.Common.{◌≡◌, ◌-◌, ◌^◌, min, take}
use Rattle.lio_values.specs.Measures.{items_size}
use Rattle.lio_values.specs.Views.{forest_of}
use Rattle.lio_values.proofs.+size.Given as goal

-- the sizes so far
abbrev pub invariant-items::Items::size-loop-value : goal.invariant-items::Items::size-loop-value
invariant-items::Items::size-loop-value l = l.size ≡ min (items_size (forest_of (take l.value-index l.value-items))) (2 ^ 64 - 1)
