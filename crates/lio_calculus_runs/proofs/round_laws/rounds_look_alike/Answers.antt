use Rattle.lio_calculus_runs.proofs.LowEndLemmas.{rounds_look_alike}
use Rattle.lio_calculus_runs.proofs.round_laws.rounds_look_alike.Goals as goal

pub returns : goal.returns
returns c = rounds_look_alike
