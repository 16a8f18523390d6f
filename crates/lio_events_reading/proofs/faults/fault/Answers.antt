use Rattle.lio_events_reading.proofs.ValueLemmas.{finds_fault}
use Rattle.lio_events_reading.proofs.faults.fault.Goals as goal

pub returns-clause-finds : goal.returns-clause-finds
returns-clause-finds c =
    finds_fault c.args.names.now c.args.text.now c.in_ok-kind.kind c.kind.new.text c.skip.new.self c.in_ok-at.at c.label.new.text c.in_ok-kind.ensures.finds c.skip.ensures.left c.in_ok-at.ensures.finds
