use Rattle.lio_calculus.proofs.LawLemmas.{turn_keeps_soundness}
use Rattle.lio_calculus.proofs.laws.turn_keeps_soundness.Goals as goal

pub returns : goal.returns
returns c = turn_keeps_soundness
