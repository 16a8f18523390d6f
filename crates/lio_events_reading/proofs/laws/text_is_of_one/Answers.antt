use Rattle.lio_events_reading.proofs.OneTextLemmas.{text_is_of_one}
use Rattle.lio_events_reading.proofs.laws.text_is_of_one.Goals as goal

pub returns : goal.returns
returns c = text_is_of_one
