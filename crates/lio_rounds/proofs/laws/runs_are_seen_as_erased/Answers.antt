use Rattle.lio_rounds.proofs.SeenLemmas.{seen_as_erased}
use Rattle.lio_rounds.proofs.laws.runs_are_seen_as_erased.Goals as goal

pub returns : goal.returns
returns c = seen_as_erased
