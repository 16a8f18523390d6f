use Rattle.lio_calculus_runs.proofs.PowerLaws.{run_releases_by_powers}
use Rattle.lio_calculus_runs.proofs.name_laws.run_releases_by_powers.Goals as goal

pub returns : goal.returns
returns c = run_releases_by_powers
