use Rattle.lio_audit.proofs.RunViewLemmas.{view_releases_the_same}
use Rattle.lio_audit.proofs.view_laws.view_releases_the_same.Goals as goal

pub returns : goal.returns
returns c = view_releases_the_same
