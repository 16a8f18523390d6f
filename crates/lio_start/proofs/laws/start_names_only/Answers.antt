use Rattle.lio_start.proofs.NameLemmas.{start_names_only}
use Rattle.lio_start.proofs.laws.start_names_only.Goals as goal

pub returns : goal.returns
returns c = start_names_only
