use Rattle.std.proofs.Common.{◌≡◌, ◌∙◌, ap, sym, arith, ℕ, List, ◌++◌, length, drop, None, Some, Vec, Global, Result, Ok, Err}
use Rattle.std.specs.Prelude.{IfOk, MatchResult}
use Rattle.lio_clauses.specs.declared.faults.NoMemory.{NoMemory}
use Rattle.lio_values.specs.declared.entry.Entry.{Entry}
use Rattle.lio_events_reading.proofs.ReadingLemmas.{got_beside}
use Rattle.std.proofs.lemmas.Bool.Decides.{Decides-eqb}
use Rattle.std.proofs.lemmas.Slice.Eq.{strip_prefix_is}
use Rattle.lio_events.specs.JournalText.{entry_text}
use Rattle.lio_events_reading.proofs.entry.confirmed.Goals as goal

-- the bytes that were printed
printed : (entry k : Entry) (text : Vec ℕ Global) (got : Result (Vec ℕ Global) NoMemory) (line : List ℕ)
    → MatchResult got (λ v. ◌≡◌ {A = Result (Entry × Vec ℕ Global) NoMemory} (Ok (k, text)) (Ok (entry, v))) (λ e. ◌≡◌ {A = Result (Entry × Vec ℕ Global) NoMemory} (Ok (k, text)) (Err e)) → IfOk got (λ v. v.items ≡ line) → text.items ≡ line
printed entry k text got line h p = got_beside (λ v. v.items ≡ line) got entry k text h p

pub returns-in-Some-clause-ok : goal.returns-in-Some-clause-ok
returns-in-Some-clause-ok c =
    let bytes : List ℕ = c.args.bytes.now in
    let line : List ℕ = entry_text c.args.names.now c.args.ticket c.args.entry in
    let p : List ℕ = c.as_slice.result.now in
    let is : p ≡ line = c.as_slice.ensures.value ∙ printed c.args.entry c.in_ok-entry.entry c.in_ok-entry.printed c.print_entry-printed.result (entry_text c.args.names.now c.args.ticket c.args.entry) c.in_ok-entry.ensures c.print_entry-printed.ensures in
    let m = c.in-Some.ensures.cases in
    let stripped : bytes ≡ p ++ drop (length p) bytes = strip_prefix_is Decides-eqb bytes p (Some c.in-Some.field-0) m ∙ ap (λ (r : List ℕ). p ++ r) m.1 in
    let len : c.len.result ≡ length p = c.len.ensures ∙ sym c.as_slice.ensures.len in
    record {
      splits = stripped ∙ ap (λ (q : List ℕ). q ++ drop (length p) bytes) is ∙ ap (λ (n : ℕ). line ++ drop n bytes) (sym len);
      len_is = len ∙ ap (λ (q : List ℕ). length q) is;
      within = omega (arith, len, m.2);
    }

pub returns-clause-none : goal.returns-clause-none
returns-clause-none c = λ _ rest e.
    let p : List ℕ = c.as_slice.result.now in
    let is : p ≡ entry_text c.args.names.now c.args.ticket c.args.entry = c.as_slice.ensures.value ∙ printed c.args.entry c.in_ok-entry.entry c.in_ok-entry.printed c.print_entry-printed.result (entry_text c.args.names.now c.args.ticket c.args.entry) c.in_ok-entry.ensures c.print_entry-printed.ensures in
    strip_prefix_is Decides-eqb c.args.bytes.now p None c.in-None.ensures.cases rest (e ∙ ap (λ (q : List ℕ). q ++ rest) (sym is))
