use Rattle.lio_calculus_runs.proofs.LineCalls.{rules_fit_calls}
use Rattle.lio_calculus_runs.proofs.round_laws.rules_fit_calls.Goals as goal

pub returns : goal.returns
returns c = rules_fit_calls
