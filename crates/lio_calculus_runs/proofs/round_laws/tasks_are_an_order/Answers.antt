use Rattle.lio_calculus_runs.proofs.OrderLemmas.{tasks_are_an_order}
use Rattle.lio_calculus_runs.proofs.round_laws.tasks_are_an_order.Goals as goal

pub returns : goal.returns
returns c = tasks_are_an_order
