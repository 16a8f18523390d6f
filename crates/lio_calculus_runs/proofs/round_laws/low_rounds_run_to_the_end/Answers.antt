use Rattle.lio_calculus_runs.proofs.LowRunLemmas.{low_rounds_run_to_the_end}
use Rattle.lio_calculus_runs.proofs.round_laws.low_rounds_run_to_the_end.Goals as goal

pub returns : goal.returns
returns c = low_rounds_run_to_the_end
