use Rattle.std.proofs.Common.{sym, refl}
use Rattle.std.proofs.lemmas.Result.{IfOk-weaker}
use Rattle.lio_values.specs.declared.act.Act.{Act}
use Rattle.lio_events.specs.EntryText.{act_text}
use Rattle.lio_events_reading.specs.Over.{IsActOver}
use Rattle.lio_events_reading.specs.Reading.{FindsBefore}
use Rattle.lio_events_reading.proofs.ReadingLemmas.{finds_before_by_word, finds_before_no_word}
use Rattle.lio_events_reading.proofs.ActLemmas.{act_begins, colon}
use Rattle.lio_events_reading.proofs.acts.act.Goals as goal

pub returns-in-Some-clause-finds : goal.returns-in-Some-clause-finds
returns-in-Some-clause-finds c =
    IfOk-weaker c.act_behind.result _ (λ (found : Act). FindsBefore colon (act_text c.args.names.now) (IsActOver c.args.names.now) c.args.text.now found c.act_behind.new.text)
    (λ found finds. finds_before_by_word (IsActOver c.args.names.now) (act_begins c.args.names.now) colon c.args.text.now c.word.result.now c.word.new.self c.in-Some.word found c.act_behind.new.text (λ rest. refl)
    c.word.ensures.finds (sym c.in-Some.ensures) finds) c.act_behind.ensures.finds

pub returns-in-None-clause-finds : goal.returns-in-None-clause-finds
returns-in-None-clause-finds c =
    finds_before_no_word (IsActOver c.args.names.now) (act_begins c.args.names.now) colon c.args.text.now c.word.result.now c.word.new.self _ c.word.new.self (λ rest. refl) c.word.ensures.finds (sym c.in-None.ensures)
