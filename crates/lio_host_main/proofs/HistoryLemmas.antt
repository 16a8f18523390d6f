-- A run that is taken again as a history tells.
use Rattle.std.proofs.Common.{List, ℕ}
use Rattle.lio_audit.specs.History.{IsHistoryOf}
use Rattle.lio_calculus.specs.Run.{Ran}
use Rattle.lio_calculus.specs.Journals.{actors}
use Rattle.lio_calculus_runs.specs.WellFormed.{IsWellFormed}
use Rattle.lio_calculus_runs.proofs.WellFormedTurns.{run_keeps_well_formed}
use Rattle.lio_rounds.specs.Headline.{IsRunOf}
use Rattle.lio_rounds.proofs.RunLemmas.{complete-run_of_job}
use Rattle.lio_start.specs.Job.{IsJob, JobParts, first_of}

-- it is a run of the job
pub history-run : (job : JobParts) (bytes : List ℕ) (ran : Ran) → IsJob job → IsWellFormed (first_of job) → IsHistoryOf job.policy.names (first_of job) bytes ran → IsRunOf job ran
history-run job bytes ran is well_formed history = complete-run_of_job job ran is (record {
  is_run = history.is_run;
  complete = history.complete;
  first = well_formed;
  last = run_keeps_well_formed 0 (first_of job) (actors ran.entries) ran well_formed history.is_run;
})
