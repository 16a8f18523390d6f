use Rattle.lio_calculus_runs.proofs.NamedTurns.{turn_names_only}
use Rattle.lio_calculus_runs.proofs.name_laws.turn_names_only.Goals as goal

pub returns : goal.returns
returns c = turn_names_only
