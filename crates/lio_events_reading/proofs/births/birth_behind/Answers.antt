use Rattle.std.proofs.lemmas.Result.{IfOk-weaker}
use Rattle.lio_values.specs.declared.act.Birth.{Birth}
use Rattle.lio_events_reading.specs.Births.{birth_behind}
use Rattle.lio_events_reading.specs.Over.{IsBirthOver}
use Rattle.lio_events_reading.specs.Reading.{FindsBefore}
use Rattle.lio_events_reading.proofs.ActLemmas.{colon}
use Rattle.lio_events_reading.proofs.BirthLemmas.{finds_birth}
use Rattle.lio_events_reading.proofs.births.birth_behind.Goals as goal

pub returns-clause-finds : goal.returns-clause-finds
returns-clause-finds c =
    IfOk-weaker c.new.result _ (λ (found : Birth). FindsBefore colon (birth_behind c.args.names.now) (IsBirthOver c.args.names.now) c.args.text.now found c.args-2.new.text)
    (λ found is. rw is (finds_birth c.args.names.now c.args.text.now c.blank_number-proc_at.result c.blank_number-proc_at.new.text c.in_ok-result.result c.in_ok-result.clearance c.two_labels.new.text c.blank_number-turns.result
    c.blank_number-turns.new.text c.blank_number-first.result c.blank_number-first.new.text c.blank_number-cells.result c.blank_number-cells.new.text c.in_ok-args.args c.args-2.new.text c.blank_number-proc_at.ensures.finds
    c.in_ok-result.ensures.finds c.blank_number-turns.ensures.finds c.blank_number-first.ensures.finds c.blank_number-cells.ensures.finds c.in_ok-args.ensures.finds)) c.new.ensures
