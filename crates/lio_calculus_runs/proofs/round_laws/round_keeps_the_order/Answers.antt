use Rattle.lio_calculus_runs.proofs.OrderLemmas.{round_keeps_the_order}
use Rattle.lio_calculus_runs.proofs.round_laws.round_keeps_the_order.Goals as goal

pub returns : goal.returns
returns c = round_keeps_the_order
