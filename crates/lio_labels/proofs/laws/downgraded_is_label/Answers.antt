use Rattle.lio_labels.proofs.DowngradeLemmas.{downgraded_is_label}
use Rattle.lio_labels.proofs.laws.downgraded_is_label.Goals as goal

pub returns : goal.returns
returns c = downgraded_is_label
