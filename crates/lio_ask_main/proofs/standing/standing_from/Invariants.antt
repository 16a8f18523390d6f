use Rattle.std.proofs.Common.{◌≡◌, ◌≤◌, length}
use Rattle.lio_calculus.specs.Sound.{IsSound}
use Rattle.lio_task.specs.Configuration.{configuration_of}
use Rattle.lio_task.specs.Logs.{IsLaterThanLogs}
use Rattle.lio_ask_main.proofs.standing.standing_from.Given as goal

-- turns can be taken on, and each turn so far has its number
abbrev pub invariant-loop-place : goal.invariant-loop-place
invariant-loop-place l = record {
  sound : IsSound (configuration_of l.script l.config);
  later : IsLaterThanLogs l.config l.place;
  count : length l.numbers.items ≡ l.place;
  within : l.place ≤ length l.journal;
}
