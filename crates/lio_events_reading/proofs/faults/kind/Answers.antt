use Rattle.std.proofs.Common.{sym}
use Rattle.std.proofs.lemmas.Result.{IfOk-weaker}
use Rattle.lio_events_reading.specs.Reading.{Finds}
use Rattle.lio_values.specs.declared.fault.FaultKind.{FaultKind}
use Rattle.lio_values.specs.ValueText.{kind_text}
use Rattle.lio_events_reading.specs.Over.{IsKindOver}
use Rattle.lio_events_reading.proofs.ReadingLemmas.{finds_by_word, finds_no_word}
use Rattle.lio_events_reading.proofs.KindLemmas.{kind_begins}
use Rattle.lio_events_reading.proofs.faults.kind.Goals as goal

pub returns-in-Some-clause-finds : goal.returns-in-Some-clause-finds
returns-in-Some-clause-finds c =
    IfOk-weaker c.kind_behind.result _ (λ (found : FaultKind). Finds (kind_text c.args.names.now) (IsKindOver c.args.names.now) c.args.text.now found c.kind_behind.new.text)
    (λ found finds. finds_by_word (IsKindOver c.args.names.now) (kind_begins c.args.names.now) c.args.text.now c.word.result.now c.word.new.self c.in-Some.word found c.kind_behind.new.text c.word.ensures.finds
    (sym c.in-Some.ensures) finds) c.kind_behind.ensures.finds

pub returns-in-None-clause-finds : goal.returns-in-None-clause-finds
returns-in-None-clause-finds c =
    finds_no_word (IsKindOver c.args.names.now) (kind_begins c.args.names.now) c.args.text.now c.word.result.now c.word.new.self _ c.word.new.self c.word.ensures.finds (sym c.in-None.ensures)
