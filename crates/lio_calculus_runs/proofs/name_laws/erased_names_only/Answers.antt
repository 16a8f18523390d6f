use Rattle.lio_calculus_runs.proofs.NamedLowTurns.{erased_names_only}
use Rattle.lio_calculus_runs.proofs.name_laws.erased_names_only.Goals as goal

pub returns : goal.returns
returns c = erased_names_only
