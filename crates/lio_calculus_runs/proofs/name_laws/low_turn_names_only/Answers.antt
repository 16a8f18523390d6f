use Rattle.lio_calculus_runs.proofs.NamedLowTurns.{low_turn_names_only}
use Rattle.lio_calculus_runs.proofs.name_laws.low_turn_names_only.Goals as goal

pub returns : goal.returns
returns c = low_turn_names_only
