use Rattle.lio_calculus_runs.proofs.EndLemmas.{rounds_run_to_the_end}
use Rattle.lio_calculus_runs.proofs.round_laws.rounds_run_to_the_end.Goals as goal

pub returns : goal.returns
returns c = rounds_run_to_the_end
