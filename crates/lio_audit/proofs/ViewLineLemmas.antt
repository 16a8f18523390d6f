-- Lines that stand in bytes are of one entry each.
use Rattle.std.proofs.Common.{◌≡◌, ◌∙◌, refl, sym, ap, subst, ℕ, false, List, [], ◌∷◌, ◌++◌, length, drop, append_assoc, arith}
use Rattle.lio_values.specs.declared.entry.Entry.{Entry}
use Rattle.lio_events.specs.JournalText.{entry_text, journal_text}
use Rattle.lio_events_reading.specs.Lines.{IsOnlySeen}
use Rattle.lio_events_reading.specs.Over.{IsEntryOver}
use Rattle.lio_audit.proofs.SeenLemmas.{over-ticket, text-ticket}

-- the lines of two entries over the names that have the same ticket stand at the front of the same bytes only where the entries are one
abbrev pub LineIsOfOne : List (List ℕ) → List ℕ → Type 0
LineIsOfOne names bytes = (one two : Entry) (r s : List ℕ) → IsEntryOver names one → IsEntryOver names two → one.ticket ≡ two.ticket → bytes ≡ entry_text names false one ++ r → bytes ≡ entry_text names false two ++ s → one ≡ two

-- so it is at the front of bytes, and behind the line of each of these entries but the last
abbrev pub AreOfOne : List (List ℕ) → List Entry → List ℕ → Type 0
AreOfOne names [] bytes = Unit {0}
AreOfOne names (entry ∷ entries) bytes = LineIsOfOne names bytes × AreOfOne names entries (drop (length (entry_text names false entry)) bytes)

pub only-of_one : (names : List (List ℕ)) (bytes : List ℕ) (entry : Entry) → IsOnlySeen names 0 bytes entry → LineIsOfOne names bytes
only-of_one names bytes entry only one two r s over over' tickets is bs =
    let first = only (record one { ticket = 0 }) r (over-ticket names one 0 (omega arith) over) refl (is ∙ ap (λ (text : List ℕ). text ++ r) (sym (text-ticket names one 0))) in
    let second = only (record two { ticket = 0 }) s (over-ticket names two 0 (omega arith) over') refl (bs ∙ ap (λ (text : List ℕ). text ++ s) (sym (text-ticket names two 0))) in
    ap (λ (x : Entry). let back : Entry = record x { ticket = one.ticket } in back) (first ∙ sym second) ∙ ap (λ (n : ℕ). let back : Entry = record two { ticket = n } in back) tickets

pub drop-front : (front rest : List ℕ) → drop (length front) (front ++ rest) ≡ rest
drop-front [] rest = refl
drop-front (byte ∷ front) rest = drop-front front rest

-- what is left of bytes behind the first of their lines
pub drop-line : (names : List (List ℕ)) (entry : Entry) (entries : List Entry) (bytes rest : List ℕ) → bytes ≡ journal_text names false (entry ∷ entries) ++ rest
    → drop (length (entry_text names false entry)) bytes ≡ journal_text names false entries ++ rest
drop-line names entry entries bytes rest is =
    let line : List ℕ = entry_text names false entry in
    ap (drop (length line)) (is ∙ append_assoc line (journal_text names false entries) rest) ∙ drop-front line (journal_text names false entries ++ rest)

-- one line more
pub of_one-push : (names : List (List ℕ)) (entries : List Entry) (entry : Entry) (bytes rest : List ℕ) → bytes ≡ journal_text names false entries ++ rest → AreOfOne names entries bytes → LineIsOfOne names rest
    → AreOfOne names (entries ++ entry ∷ []) bytes
of_one-push names [] entry bytes rest is so_far line = (subst (LineIsOfOne names) (sym is) line, tt)
of_one-push names (e ∷ entries) entry bytes rest is so_far line =
    (so_far.0, of_one-push names entries entry (drop (length (entry_text names false e)) bytes) rest (drop-line names e entries bytes rest is) so_far.1 line)
