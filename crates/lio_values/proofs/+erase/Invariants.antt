use Rattle.std.proofs.Common.{◌≡◌, take, map}
use Rattle.lio_values.specs.Erasure.{erase_value}
use Rattle.lio_values.proofs.+erase.Given as goal

-- the values so far are those that were passed, erased
abbrev pub invariant-items::Items::erase-loop-value : goal.invariant-items::Items::erase-loop-value
invariant-items::Items::erase-loop-value l = l.values ≡ map (erase_value l.observer) (take l.value-index l.value-items)
