use Rattle.std.proofs.Common.{◌≡◌, ◌∙◌, ap, sym}
use Rattle.std.proofs.lemmas.Result.{IfOk-weaker}
use Rattle.lio_values.specs.declared.value.Plain.{Plain}
use Rattle.lio_values.specs.PlainText.{plain_text}
use Rattle.lio_events_reading.specs.declared.start.Start.TheVariants as start
use Rattle.lio_events_reading.specs.Start.{start_of}
use Rattle.lio_events_reading.specs.Plains.{IsSingleOver}
use Rattle.lio_events_reading.specs.Reading.{Finds}
use Rattle.lio_events_reading.proofs.PlainLemmas.{finds_text, finds_lab}
use Rattle.lio_events_reading.proofs.plain.single.Goals as goal

pub returns-in-Text-clause-finds : goal.returns-in-Text-clause-finds
returns-in-Text-clause-finds c =
    let begins : start_of c.args.text.now ≡ start.Text = ap start_of (sym c.rest.ensures) ∙ sym c.in-Text.ensures in
    IfOk-weaker c.literal.result _ (λ (found : Plain). Finds (plain_text c.args.names.now) (IsSingleOver c.args.names.now) c.args.text.now found c.quoted.new.self)
    (λ found gives. finds_text c.args.names.now c.args.text.now c.quoted.result.now c.quoted.new.self found begins c.quoted.ensures.finds gives) c.literal.ensures.finds

pub returns-in_ok-label-in-Label-clause-finds : goal.returns-in_ok-label-in-Label-clause-finds
returns-in_ok-label-in-Label-clause-finds c =
    let begins : start_of c.args.text.now ≡ start.Label = ap start_of (sym c.rest.ensures) ∙ sym c.in-Label.ensures in
    finds_lab c.args.names.now c.args.text.now c.in_ok-label-in-Label.field-0 c.label.new.text begins c.in_ok-label-in-Label.ensures.finds
