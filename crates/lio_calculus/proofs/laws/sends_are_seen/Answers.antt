use Rattle.lio_calculus.proofs.SendLemmas.{sends_are_seen}
use Rattle.lio_calculus.proofs.laws.sends_are_seen.Goals as goal

pub returns : goal.returns
returns c = sends_are_seen
