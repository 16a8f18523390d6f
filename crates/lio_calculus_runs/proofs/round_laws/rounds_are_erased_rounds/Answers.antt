use Rattle.lio_calculus_runs.proofs.LowEndLemmas.{rounds_are_erased_rounds}
use Rattle.lio_calculus_runs.proofs.round_laws.rounds_are_erased_rounds.Goals as goal

pub returns : goal.returns
returns c = rounds_are_erased_rounds
