use Rattle.lio_events_reading.proofs.NumberLemmas.{finds_long}
use Rattle.lio_events_reading.proofs.numbers.long.Goals as goal

pub returns-clause-finds : goal.returns-clause-finds
returns-clause-finds c = finds_long c.args.text.now c.word.result.now c.word.new.self c.number_of.result c.word.ensures.finds c.number_of.ensures
