use Rattle.std.proofs.Common.{length}
use Rattle.lio_workers.proofs.run.run_workers.Given as goal

-- the numbers in the queue are those of the configuration
abbrev pub ghosts-run_below : goal.ghosts-run_below
ghosts-run_below g a = record { bound = length a.start.holders.items }
