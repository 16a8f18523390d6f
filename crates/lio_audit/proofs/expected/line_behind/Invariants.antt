use Rattle.std.proofs.Common.{◌≡◌, ◌≤◌, ◌-◌, ◌+◌, length}
use Rattle.lio_task.specs.Configuration.{configuration_of}
use Rattle.lio_audit.proofs.ReplayLemmas.{IsSoFar}
use Rattle.lio_audit.proofs.expected.line_behind.Given as goal

-- the lines before this one are those of a run
abbrev pub invariant-loop-number : goal.invariant-loop-number
invariant-loop-number l = record {
  so_far : IsSoFar l.names l.script (configuration_of l.script l.initial.config) l.bytes l.config l.journal l.at;
  number : l.number ≡ length l.journal + 1;
  within : l.number ≤ l.line;
}

abbrev pub decreases-loop-number : goal.decreases-loop-number
decreases-loop-number l = l.line - l.number
