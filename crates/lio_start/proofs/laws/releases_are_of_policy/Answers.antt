use Rattle.lio_start.proofs.PowerLemmas.{releases_are_of_policy}
use Rattle.lio_start.proofs.laws.releases_are_of_policy.Goals as goal

pub returns : goal.returns
returns c = releases_are_of_policy
