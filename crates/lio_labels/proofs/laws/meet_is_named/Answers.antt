use Rattle.lio_labels.proofs.NamedLemmas.{meet_is_named}
use Rattle.lio_labels.proofs.laws.meet_is_named.Goals as goal

pub returns : goal.returns
returns c = meet_is_named
