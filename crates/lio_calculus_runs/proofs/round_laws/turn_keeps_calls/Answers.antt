use Rattle.lio_calculus_runs.proofs.CallsKept.{turn_keeps_calls}
use Rattle.lio_calculus_runs.proofs.round_laws.turn_keeps_calls.Goals as goal

pub returns : goal.returns
returns c = turn_keeps_calls
