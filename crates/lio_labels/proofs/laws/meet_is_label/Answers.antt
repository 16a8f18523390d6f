use Rattle.lio_labels.proofs.BoundLemmas.{meet_is_label}
use Rattle.lio_labels.proofs.laws.meet_is_label.Goals as goal

pub returns : goal.returns
returns c = meet_is_label
