use Rattle.lio_calculus.specs.Sound.{IsSound}
use Rattle.lio_task.specs.Configuration.{configuration_of}
use Rattle.lio_task.specs.Logs.{IsLaterThanLogs}
use Rattle.lio_bench.proofs.turns.steps.Given as goal

-- the configuration is sound, and the next ticket is greater than all in its logs
abbrev pub invariant-loop-ticket : goal.invariant-loop-ticket
invariant-loop-ticket l = record {
  sound : IsSound (configuration_of l.script l.config);
  later : IsLaterThanLogs l.config l.ticket;
}
