use Rattle.lio_calculus_runs.proofs.NamedTurns.{run_names_only}
use Rattle.lio_calculus_runs.proofs.name_laws.run_names_only.Goals as goal

pub returns : goal.returns
returns c = run_names_only
