use Rattle.std.proofs.Common.{◌≡◌, ◌-◌, ◌^◌, min, take}
use Rattle.lio_values.specs.Measures.{items_seals}
use Rattle.lio_values.specs.Views.{forest_of}
use Rattle.lio_values.proofs.+seals.Given as goal

-- those of the values so far
abbrev pub invariant-items::Items::seals-loop-value : goal.invariant-items::Items::seals-loop-value
invariant-items::Items::seals-loop-value l = l.seals ≡ min (items_seals (forest_of (take l.value-index l.value-items))) (2 ^ 64 - 1)
