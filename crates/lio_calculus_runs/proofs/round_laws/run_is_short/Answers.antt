use Rattle.lio_calculus_runs.proofs.WellFormedTurns.{run_is_short}
use Rattle.lio_calculus_runs.proofs.round_laws.run_is_short.Goals as goal

pub returns : goal.returns
returns c = run_is_short
