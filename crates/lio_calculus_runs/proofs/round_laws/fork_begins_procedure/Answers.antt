use Rattle.lio_calculus_runs.proofs.Beginnings.{fork_begins_procedure}
use Rattle.lio_calculus_runs.proofs.round_laws.fork_begins_procedure.Goals as goal

pub returns : goal.returns
returns c = fork_begins_procedure
