use Rattle.lio_calculus_runs.proofs.Beginnings.{spawn_begins_procedure}
use Rattle.lio_calculus_runs.proofs.round_laws.spawn_begins_procedure.Goals as goal

pub returns : goal.returns
returns c = spawn_begins_procedure
