use Rattle.lio_labels.proofs.NamedLemmas.{downgraded_is_named}
use Rattle.lio_labels.proofs.laws.downgraded_is_named.Goals as goal

pub returns : goal.returns
returns c = downgraded_is_named
