use Rattle.std.proofs.Common.{◌≡◌, take}
use Rattle.lio_values.proofs.+copy.Given as goal

-- the values so far are those that were passed
abbrev pub invariant-items::Items::copy-loop-value : goal.invariant-items::Items::copy-loop-value
invariant-items::Items::copy-loop-value l = l.values ≡ take l.value-index l.value-items
