use Rattle.lio_outside.proofs.KeepLemmas.{PartlyKept-first_part}
use Rattle.lio_outside.proofs.laws.law_of_refused_keeps.Goals as goal

pub returns : goal.returns
returns c = PartlyKept-first_part
