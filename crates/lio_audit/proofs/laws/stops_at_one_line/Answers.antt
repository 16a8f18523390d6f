use Rattle.lio_audit.proofs.LawLemmas.{stops_at_one_line}
use Rattle.lio_audit.proofs.laws.stops_at_one_line.Goals as goal

pub returns : goal.returns
returns c = stops_at_one_line
