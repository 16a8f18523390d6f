use Rattle.lio_audit.proofs.LawLemmas.{history_stops_nowhere}
use Rattle.lio_audit.proofs.laws.history_stops_nowhere.Goals as goal

pub returns : goal.returns
returns c = history_stops_nowhere
