use Rattle.lio_events_reading.proofs.EndLemmas.{text_is_one_line}
use Rattle.lio_events_reading.proofs.laws.text_is_one_line.Goals as goal

pub returns : goal.returns
returns c = text_is_one_line
