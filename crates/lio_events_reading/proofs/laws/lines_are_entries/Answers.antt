use Rattle.lio_events_reading.proofs.EndLemmas.{lines_are_entries}
use Rattle.lio_events_reading.proofs.laws.lines_are_entries.Goals as goal

pub returns : goal.returns
returns c = lines_are_entries
