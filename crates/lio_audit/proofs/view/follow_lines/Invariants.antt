use Rattle.std.proofs.Common.{length, ◌-◌}
use Rattle.lio_erasure.specs.LowParts.{low_of}
use Rattle.lio_audit.proofs.ViewLemmas.{IsSeenSoFar}
use Rattle.lio_audit.proofs.view.follow_lines.Given as goal

-- the lines so far are those of a run
abbrev pub invariant-loop-at : goal.invariant-loop-at
invariant-loop-at l = IsSeenSoFar l.names l.observer (low_of l.initial.low).configuration l.bytes (low_of l.low) l.at l.lines

abbrev pub decreases-loop-at : goal.decreases-loop-at
decreases-loop-at l = length l.bytes - l.at
