use Rattle.lio_calculus.proofs.PurityLemmas.{low_turn_keeps_purity}
use Rattle.lio_calculus.proofs.laws.low_turn_keeps_purity.Goals as goal

pub returns : goal.returns
returns c = low_turn_keeps_purity
