use Rattle.std.proofs.lemmas.Result.{IfOk-weaker}
use Rattle.lio_labels.specs.declared.label.Label.{Label}
use Rattle.lio_values.specs.PlainText.{label_in_brackets}
use Rattle.lio_events_reading.specs.Over.{IsLabelOver}
use Rattle.lio_events_reading.specs.Reading.{Finds}
use Rattle.lio_events_reading.proofs.LabelLemmas.{finds_label}
use Rattle.lio_events_reading.proofs.labels.label.Goals as goal

pub returns-clause-finds : goal.returns-clause-finds
returns-clause-finds c =
    IfOk-weaker c.label_of.result _ (λ (found : Label). Finds (label_in_brackets c.args.names.now) (IsLabelOver c.args.names.now) c.args.text.now found c.bracketed.new.self)
    (λ found read. finds_label c.args.names.now c.args.text.now c.bracketed.result.now c.bracketed.new.self found c.len.ensures.names c.bracketed.ensures.finds read) c.label_of.ensures.found
