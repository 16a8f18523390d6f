use Rattle.lio_calculus_runs.specs.Rounds.{measure}
use Rattle.lio_rounds.specs.MachineParts.{machine_of}
use Rattle.lio_rounds.proofs.RoundLemmas.{RoundsSoFar}
use Rattle.lio_rounds.proofs.machine.Machine.run_rounds.Given as goal

-- rounds so far
abbrev pub invariant-loop : goal.invariant-loop
invariant-loop l = RoundsSoFar (machine_of l.fn.self) (machine_of l.self)

abbrev pub decreases-loop : goal.decreases-loop
decreases-loop l = measure (machine_of l.self).configuration
