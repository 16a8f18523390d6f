use Rattle.std.proofs.Common.{map, take}
use Rattle.lio_policy.specs.Lists.{extent, in_all, IsExtent}
use Rattle.lio_policy.proofs.lists.+extent.Given as goal

-- that of the arguments so far
abbrev pub invariant-extent_in_all-loop-arg : goal.invariant-extent_in_all-loop-arg
invariant-extent_in_all-loop-arg l = IsExtent (in_all (map (extent l.inputs) (take l.arg-index l.args))) l.all
