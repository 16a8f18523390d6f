use Rattle.lio_labels.proofs.BoundLemmas.{join_is_label}
use Rattle.lio_labels.proofs.laws.join_is_label.Goals as goal

pub returns : goal.returns
returns c = join_is_label
