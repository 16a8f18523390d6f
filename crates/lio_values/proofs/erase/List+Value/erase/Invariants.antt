use Rattle.std.proofs.Common.{◌≡◌, take, map}
use Rattle.lio_values.specs.Erasure.{erase_value}
use Rattle.lio_values.proofs.erase.List+Value.erase.Given as goal

-- the values so far are those that were passed, erased
abbrev pub invariant-loop-value : goal.invariant-loop-value
invariant-loop-value l = l.values ≡ map (erase_value l.observer) (take l.value-index l.value-items)
