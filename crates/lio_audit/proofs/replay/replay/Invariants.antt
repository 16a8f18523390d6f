use Rattle.std.proofs.Common.{length, ◌-◌}
use Rattle.lio_task.specs.Configuration.{configuration_of}
use Rattle.lio_audit.proofs.ReplayLemmas.{IsSoFar}
use Rattle.lio_audit.proofs.replay.replay.Given as goal

-- the lines so far are those of a run
abbrev pub invariant-loop-at : goal.invariant-loop-at
invariant-loop-at l = IsSoFar l.names l.script (configuration_of l.script l.initial.config) l.bytes l.config l.journal l.at

abbrev pub decreases-loop-at : goal.decreases-loop-at
decreases-loop-at l = length l.bytes - l.at
