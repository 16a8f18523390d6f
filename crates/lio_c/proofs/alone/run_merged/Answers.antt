use Rattle.lio_rounds.specs.Runs.{ran_of}
use Rattle.lio_start.specs.Job.{first_of}
use Rattle.lio_workers.proofs.MergeLemmas.{complete-merge}
use Rattle.lio_c.proofs.alone.run_merged.Goals as goal

pub returns-clause-merge : goal.returns-clause-merge
returns-clause-merge c = complete-merge (first_of c.args.job.now) (ran_of c.args.job.now.script c.in_ok-ran.ran) c.in_ok-ran.ensures.run.is_run
