use Rattle.std.proofs.Common.{ℕ, ◌+◌, ◌-◌, length}
use Rattle.lio_rounds.specs.Awake.{Waits}
use Rattle.lio_rounds.proofs.awake.note_at.Given as goal

abbrev pub invariant-loop-alloc : goal.invariant-loop-alloc
invariant-loop-alloc l = (n i : ℕ) → Waits l.fn.waiting.items n i → Waits l.waiting.items n i

abbrev pub decreases-loop-alloc : goal.decreases-loop-alloc
decreases-loop-alloc l = l.node + 1 - length l.waiting.items
