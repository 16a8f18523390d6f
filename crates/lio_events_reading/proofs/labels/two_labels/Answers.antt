use Rattle.lio_values.specs.PlainText.{label_in_brackets}
use Rattle.lio_events_reading.specs.Over.{IsLabelOver}
use Rattle.lio_events_reading.proofs.ReadingLemmas.{finds_two}
use Rattle.lio_events_reading.proofs.labels.two_labels.Goals as goal

pub returns-clause-finds : goal.returns-clause-finds
returns-clause-finds c =
    finds_two (label_in_brackets c.args.names.now) (IsLabelOver c.args.names.now) (label_in_brackets c.args.names.now) (IsLabelOver c.args.names.now) c.args.text.now c.skip.new.self c.in_ok-first.first c.label.new.text
    c.skip-2.new.self c.in_ok-second.second c.label-2.new.text c.skip.ensures.left c.in_ok-first.ensures.finds c.skip-2.ensures.left c.in_ok-second.ensures.finds
