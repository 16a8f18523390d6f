use Rattle.std.proofs.Common.{All}
use Rattle.lio_values.specs.Purity.{IsContentPure}
use Rattle.lio_calculus_runs.specs.Rounds.{measure}
use Rattle.lio_erasure.specs.LowParts.{low_of}
use Rattle.lio_audit.specs.Asking.{rerun_of}
use Rattle.lio_audit.proofs.AskLemmas.{Leads}
use Rattle.lio_audit.proofs.rerun.Rerun.run.Given as goal

-- what comes from here comes from the beginning
abbrev pub invariant-loop : goal.invariant-loop
invariant-loop l = record { leads : Leads (rerun_of l.initial.self) (rerun_of l.self); pure : All IsContentPure l.self.releases }

abbrev pub decreases-loop : goal.decreases-loop
decreases-loop l = measure (low_of l.self.low).configuration
