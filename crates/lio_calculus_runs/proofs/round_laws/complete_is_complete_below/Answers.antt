use Rattle.lio_calculus_runs.proofs.LowRoundLemmas.{complete_is_complete_below}
use Rattle.lio_calculus_runs.proofs.round_laws.complete_is_complete_below.Goals as goal

pub returns : goal.returns
returns c = complete_is_complete_below
