use Rattle.lio_start.proofs.LawLemmas.{start_is_well_formed}
use Rattle.lio_start.proofs.laws.start_is_well_formed.Goals as goal

pub returns : goal.returns
returns c = start_is_well_formed
