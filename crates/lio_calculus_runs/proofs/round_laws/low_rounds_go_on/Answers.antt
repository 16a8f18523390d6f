use Rattle.lio_calculus_runs.proofs.LowRunLemmas.{low_rounds_go_on}
use Rattle.lio_calculus_runs.proofs.round_laws.low_rounds_go_on.Goals as goal

pub returns : goal.returns
returns c = low_rounds_go_on
