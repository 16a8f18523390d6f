-- The text of a line.
use Rattle.std.proofs.Common.{◌≡◌, ◌+◌, ◌<◌, ◌^◌, ◌++◌, ℕ, true, List, length, length-append, codes, arith}
use Rattle.std.specs.Prelude.{decimal}
use Rattle.lio_values.specs.declared.entry.Entry.{Entry}
use Rattle.lio_events.specs.EntryText.{line_text}
use Rattle.lio_events.specs.JournalText.{entry_text}
use Rattle.lio_events_reading.proofs.LineLemmas.{same_actor}

-- a line has a byte
pub text-some : (names : List (List ℕ)) (entry : Entry) → 0 < length (entry_text names true entry)
unfolding entry_text
text-some names entry =
    let blank : List ℕ = codes " " in
    let ticket : length (decimal entry.ticket ++ blank) ≡ length (decimal entry.ticket) + length blank = length-append (decimal entry.ticket) blank in
    let whole : length ((decimal entry.ticket ++ blank) ++ line_text names entry) ≡ length (decimal entry.ticket ++ blank) + length (line_text names entry) = length-append (decimal entry.ticket ++ blank) (line_text names entry) in
    omega (arith, ticket, whole)

-- lines with the same ticket at the front of the same bytes have the same actor
pub same-actor : (names : List (List ℕ)) (one two : Entry) (r s : List ℕ) → one.ticket ≡ two.ticket → one.ticket < 2 ^ 64 → one.actor < 2 ^ 32 → two.actor < 2 ^ 32 → entry_text names true one ++ r ≡ entry_text names true two ++ s
    → one.actor ≡ two.actor
same-actor names one two r s tickets wide near far is = same_actor names one two r s tickets near far is
