use Rattle.lio_calculus.proofs.LawLemmas.{unseen_turn_releases_nothing}
use Rattle.lio_calculus.proofs.laws.unseen_turn_releases_nothing.Goals as goal

pub returns : goal.returns
returns c = unseen_turn_releases_nothing
