use Rattle.std.proofs.Common.{◌≡◌, ◌∙◌, ◌++◌, ap, sym, false}
use Rattle.std.proofs.lemmas.Result.{IfOk-weaker}
use Rattle.lio_events.specs.JournalText.{entry_text}
use Rattle.lio_values.specs.declared.entry.Entry.{Entry}
use Rattle.lio_events_reading.specs.Lines.{IsOnlySeen}
use Rattle.lio_events_reading.proofs.LineLemmas.{is_seen}
use Rattle.lio_events_reading.proofs.entry.read_seen.Goals as goal

pub returns-clause-only : goal.returns-clause-only
returns-clause-only c =
    IfOk-weaker c.confirmed.result _ (λ found. IsOnlySeen c.args.names.now c.args.ticket c.args.bytes.now found.0)
    (λ found is_it other rest o same is. sym (is_it ∙ is_seen c.args.names.now c.args.bytes.now c.new-text.result c.args.ticket c.in_ok-entry.entry c.new-text.ensures c.in_ok-entry.ensures.finds other rest o same is)) c.confirmed.ensures.entry

pub returns-clause-none : goal.returns-clause-none
returns-clause-none c = λ e other rest o with_ticket is.
    let same : c.in_ok-entry.entry ≡ other = is_seen c.args.names.now c.args.bytes.now c.new-text.result c.args.ticket c.in_ok-entry.entry c.new-text.ensures c.in_ok-entry.ensures.finds other rest o with_ticket is in
    c.confirmed.ensures.none e rest (is ∙ ap (λ (entry : Entry). entry_text c.args.names.now false entry ++ rest) (sym same))
