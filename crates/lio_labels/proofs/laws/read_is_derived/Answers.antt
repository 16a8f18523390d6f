use Rattle.lio_labels.proofs.TextLemmas.{read_is_derived}
use Rattle.lio_labels.proofs.laws.read_is_derived.Goals as goal

pub returns : goal.returns
returns c = read_is_derived
