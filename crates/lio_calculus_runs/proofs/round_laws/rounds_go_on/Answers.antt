use Rattle.lio_calculus_runs.proofs.EndLemmas.{rounds_go_on}
use Rattle.lio_calculus_runs.proofs.round_laws.rounds_go_on.Goals as goal

pub returns : goal.returns
returns c = rounds_go_on
