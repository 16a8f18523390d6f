use Rattle.std.proofs.Common.{◌≡◌, take}
use Rattle.lio_values.proofs.value.List+Value.copy.Given as goal

-- the values so far are those that were passed
abbrev pub invariant-loop-value : goal.invariant-loop-value
invariant-loop-value l = l.values ≡ take l.value-index l.value-items
