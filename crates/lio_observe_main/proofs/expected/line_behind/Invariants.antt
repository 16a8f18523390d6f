use Rattle.std.proofs.Common.{◌≡◌, ◌-◌, ◌≤◌, ◌⊎◌}
use Rattle.lio_calculus_runs.specs.Configuration.{NamesOnly}
use Rattle.lio_erasure.specs.LowParts.{low_of}
use Rattle.lio_observe_main.specs.Expected.{AreTurns}
use Rattle.lio_observe_main.proofs.expected.line_behind.Given as goal

-- what was left names only principals that have names, and so many turns lead there
abbrev pub invariant-loop-before : goal.invariant-loop-before
invariant-loop-before l = record {
  named : NamesOnly l.names (low_of l.low).configuration;
  observer : (low_of l.low).observer ≡ (low_of l.initial.low).observer;
  some : 1 ≤ l._before;
  within : (l._before ≡ 1) ⊎ (l._before ≤ l.line);
  turns : AreTurns (low_of l.initial.low).observer (l._before - 1) (low_of l.initial.low).configuration (low_of l.low).configuration;
}
