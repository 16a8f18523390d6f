use Rattle.std.proofs.Common.{sym}
use Rattle.std.proofs.lemmas.Result.{IfOk-weaker}
use Rattle.lio_values.specs.declared.value.Plain.{Plain}
use Rattle.lio_values.specs.PlainText.{plain_text}
use Rattle.lio_events_reading.specs.Plains.{IsWordedOver}
use Rattle.lio_events_reading.specs.Reading.{Finds}
use Rattle.lio_events_reading.proofs.PlainLemmas.{finds_worded, finds_literal}
use Rattle.lio_events_reading.proofs.plain.worded.Goals as goal

pub returns-in-Some-clause-finds : goal.returns-in-Some-clause-finds
returns-in-Some-clause-finds c =
    IfOk-weaker c.plain_behind.result _ (λ (found : Plain). Finds (plain_text c.args.names.now) (IsWordedOver c.args.names.now) c.args.text.now found c.plain_behind.new.text)
    (λ found finds. finds_worded c.args.names.now c.args.text.now c.word-word.result.now c.word-word.new.self c.in-Some.word found c.plain_behind.new.text c.word-word.ensures.finds (sym c.in-Some.ensures) finds)
    c.plain_behind.ensures.finds

pub returns-in-None-clause-finds : goal.returns-in-None-clause-finds
returns-in-None-clause-finds c =
    IfOk-weaker c.literal.result _ (λ (found : Plain). Finds (plain_text c.args.names.now) (IsWordedOver c.args.names.now) c.args.text.now found c.word-word.new.self)
    (λ found gives. finds_literal c.args.names.now c.args.text.now c.word-word.result.now c.word-word.new.self found c.word-word.ensures.finds (sym c.in-None.ensures) gives)
    c.literal.ensures.finds
