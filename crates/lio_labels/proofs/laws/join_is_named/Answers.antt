use Rattle.lio_labels.proofs.NamedLemmas.{join_is_named}
use Rattle.lio_labels.proofs.laws.join_is_named.Goals as goal

pub returns : goal.returns
returns c = join_is_named
