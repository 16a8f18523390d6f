use Rattle.std.proofs.Common.{◌≡◌, ◌<◌, ℕ, false}
use Rattle.lio_calculus.specs.Step.{can}
use Rattle.lio_task.specs.Configuration.{configuration_of}
use Rattle.lio_audit.proofs.replay.first_to_move.Given as goal

-- none of the tasks so far can take a turn
abbrev pub invariant-loop-k : goal.invariant-loop-k
invariant-loop-k l = (j : ℕ) → j < l.k → can (configuration_of l.fn.script l.fn.config) j ≡ false
