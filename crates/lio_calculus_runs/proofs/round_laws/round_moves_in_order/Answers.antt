use Rattle.lio_calculus_runs.proofs.EndLemmas.{round_moves_in_order}
use Rattle.lio_calculus_runs.proofs.round_laws.round_moves_in_order.Goals as goal

pub returns : goal.returns
returns c = round_moves_in_order
