use Rattle.std.proofs.Common.{◌≡◌, Some, map}
use Rattle.lio_table.proofs.boxes.boxed.Given as goal

-- the values so far are on the heap
abbrev pub invariant-loop-value : goal.invariant-loop-value
invariant-loop-value g l = l.slots.items ≡ map Some l.yielded
