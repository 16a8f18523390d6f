use Rattle.std.proofs.lemmas.Result.{IfOk-weaker}
use Rattle.lio_labels.specs.declared.privilege.Priv.{Priv}
use Rattle.lio_events_reading.specs.Labels.{power_inside}
use Rattle.lio_events_reading.specs.Over.{IsPowerOver}
use Rattle.lio_events_reading.specs.Reading.{Finds}
use Rattle.lio_events_reading.proofs.LabelLemmas.{finds_power}
use Rattle.lio_events_reading.proofs.labels.power_behind.Goals as goal

pub returns-clause-finds : goal.returns-clause-finds
returns-clause-finds c =
    IfOk-weaker c.power_of.result _ (λ (found : Priv). Finds (power_inside c.args.names.now) (IsPowerOver c.args.names.now) c.args.text.now found c.bracketed.new.self)
    (λ found read. finds_power c.args.names.now c.args.text.now c.bracketed.result.now c.bracketed.new.self found c.len.ensures.names c.bracketed.ensures.finds read) c.power_of.ensures.found
