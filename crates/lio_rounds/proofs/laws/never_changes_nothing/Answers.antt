use Rattle.lio_rounds.proofs.FlowLemmas.{never_changes_nothing}
use Rattle.lio_rounds.proofs.laws.never_changes_nothing.Goals as goal

pub returns : goal.returns
returns c = never_changes_nothing
