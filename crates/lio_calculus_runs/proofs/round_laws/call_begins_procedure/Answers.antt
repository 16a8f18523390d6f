use Rattle.lio_calculus_runs.proofs.Beginnings.{call_begins_procedure}
use Rattle.lio_calculus_runs.proofs.round_laws.call_begins_procedure.Goals as goal

pub returns : goal.returns
returns c = call_begins_procedure
