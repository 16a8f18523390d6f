use Rattle.std.proofs.Common.{◌≡◌, ◌<◌, ℕ, false}
use Rattle.lio_calculus.specs.Step.{can}
use Rattle.lio_erasure.specs.LowParts.{low_of}
use Rattle.lio_audit.proofs.view.is_complete.Given as goal

-- none of the tasks so far can take a turn
abbrev pub invariant-loop-k : goal.invariant-loop-k
invariant-loop-k l = (j : ℕ) → j < l.k → can (low_of l.fn.low).configuration j ≡ false
