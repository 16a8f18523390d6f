use Rattle.std.proofs.Common.{◌≡◌, ◌∙◌, ap, sym}
use Rattle.std.proofs.lemmas.Result.{IfOk-weaker}
use Rattle.lio_events_reading.specs.declared.start.Start.TheVariants as start
use Rattle.lio_events_reading.specs.Start.{start_of}
use Rattle.lio_events_reading.specs.Reading.{Finds}
use Rattle.lio_values.specs.declared.value.Content.{Content}
use Rattle.lio_values.specs.ValueText.{content_text}
use Rattle.lio_events_reading.specs.Over.{IsContentOver}
use Rattle.lio_events_reading.proofs.ValueLemmas.{finds_fault_content, finds_hidden}
use Rattle.lio_events_reading.proofs.values.content.Goals as goal

pub returns-in-Fault-clause-finds : goal.returns-in-Fault-clause-finds
returns-in-Fault-clause-finds c =
    let begins : start_of c.args.text.now ≡ start.Fault = ap start_of (sym c.rest.ensures) ∙ sym c.in-Fault.ensures in
    IfOk-weaker c.faulted.result _ (λ (found : Content). Finds (content_text c.args.names.now) (IsContentOver c.args.names.now) c.args.text.now found c.faulted.new.text)
    (λ found finds. finds_fault_content c.args.names.now c.args.text.now found c.faulted.new.text begins finds) c.faulted.ensures.finds

pub returns-in-Hidden-clause-finds : goal.returns-in-Hidden-clause-finds
returns-in-Hidden-clause-finds c =
    let begins : start_of c.args.text.now ≡ start.Hidden = ap start_of (sym c.rest.ensures) ∙ sym c.in-Hidden.ensures in
    finds_hidden c.args.names.now c.args.text.now c.skip.new.self begins c.skip.ensures.left
