use Rattle.std.proofs.Common.{◌≡◌, ◌∙◌, ap, sym, true, ℕ, List, [], length, append-nil, Err, Result}
use Rattle.lio_events.specs.JournalText.{entry_text}
use Rattle.lio_values.specs.declared.entry.Entry.{Entry}
use Rattle.std.proofs.lemmas.Result.{err_from_is_err_and}
use Rattle.lio_events_reading.specs.declared.fault.EntryFault.{EntryFault}
use Rattle.lio_events_reading.specs.declared.fault.EntryFault.TheVariants.{NotAnEntry as not_an_entry}
use Rattle.lio_events_reading.proofs.LineLemmas.{is_read}
use Rattle.lio_events_reading.proofs.entry.read_entry.Goals as goal

abbrev failed : EntryFault → Result (Entry × ℕ) EntryFault
failed f = Err f

given : (y x : EntryFault) → ◌≡◌ {A = Result Entry EntryFault} (Err y) (Err not_an_entry) → y ≡ x → x ≡ not_an_entry
given y x e same = let inner : y ≡ not_an_entry = cc in sym same ∙ inner

pub returns-then-len-line-clause-only : goal.returns-then-len-line-clause-only
returns-then-len-line-clause-only c = λ other o is.
    sym (c.in_ok-entry-2.ensures.entry ∙ is_read c.args.names.now c.args.line.now c.new-text.result c.long-ticket.result c.long-ticket.new.text c.skip.new.self c.in_ok-entry.entry c.new-text.ensures c.long-ticket.ensures.finds
    c.skip.ensures.left c.in_ok-entry.ensures.finds other o is)

pub returns-else-len-line-clause-none : goal.returns-else-len-line-clause-none
returns-else-len-line-clause-none c = λ e other o is.
    let same : c.in_ok-entry.entry ≡ other = is_read c.args.names.now c.args.line.now c.new-text.result c.long-ticket.result c.long-ticket.new.text c.skip.new.self c.in_ok-entry.entry c.new-text.ensures c.long-ticket.ensures.finds
    c.skip.ensures.left c.in_ok-entry.ensures.finds other o is in
    let all : entry_text c.args.names.now true c.in_ok-entry.entry ≡ c.args.line.now = ap (λ (entry : Entry). entry_text c.args.names.now true entry) same ∙ is in
    c.if-len-line.false (c.in_ok-entry-2.ensures.ok.len_is ∙ ap (λ (text : List ℕ). length text) all)

pub returns-in_err-entry-2-clause-none : goal.returns-in_err-entry-2-clause-none
returns-in_err-entry-2-clause-none c = λ e other o is.
    let same : c.in_ok-entry.entry ≡ other = is_read c.args.names.now c.args.line.now c.new-text.result c.long-ticket.result c.long-ticket.new.text c.skip.new.self c.in_ok-entry.entry c.new-text.ensures c.long-ticket.ensures.finds
    c.skip.ensures.left c.in_ok-entry.ensures.finds other o is in
    let p = err_from_is_err_and c.from_residual-in_err-entry-2.result c.from_residual-in_err-entry-2.ensures.1 in
    let fault : c.in_err-entry-2.field-0.0 ≡ not_an_entry = given p.0 c.in_err-entry-2.field-0.0 (sym p.1 ∙ e) p.2 in
    c.in_err-entry-2.ensures.none (ap failed fault) [] (sym is ∙ ap (λ (entry : Entry). entry_text c.args.names.now true entry) (sym same) ∙ sym (append-nil (entry_text c.args.names.now true c.in_ok-entry.entry)))
