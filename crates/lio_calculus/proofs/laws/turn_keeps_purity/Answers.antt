use Rattle.lio_calculus.proofs.PurityLemmas.{turn_keeps_purity}
use Rattle.lio_calculus.proofs.laws.turn_keeps_purity.Goals as goal

pub returns : goal.returns
returns c = turn_keeps_purity
