use Rattle.lio_labels.proofs.TextLemmas.{derived_is_read}
use Rattle.lio_labels.proofs.laws.derived_is_read.Goals as goal

pub returns : goal.returns
returns c = derived_is_read
