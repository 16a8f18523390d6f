use Rattle.lio_calculus_runs.proofs.EndLemmas.{run_is_bounded}
use Rattle.lio_calculus_runs.proofs.round_laws.run_is_bounded.Goals as goal

pub returns : goal.returns
returns c = run_is_bounded
