-- One more entry, with a later ticket.
use Rattle.std.proofs.Common.{◌≡◌, ◌<◌, ◌≤◌, ◌+◌, Bool, true, false, List, [], ◌∷◌, ◌++◌, length, length-append, arith, refl, get_or, nat_lt}
use Rattle.std.proofs.Math.ListN.{get_or-append}
use Rattle.std.proofs.Math.Seq.{get_or-append_seam}
use borrow.Author.Tests.{ltb-true, ltb-false}
use Rattle.lio_values.specs.declared.entry.Entry.{Entry}
use Rattle.lio_events.specs.Rising.{AreRising, IsLater}

pub rising_with : (entries : List Entry) (entry : Entry) → AreRising entries → IsLater entries entry → AreRising (entries ++ entry ∷ [])
rising_with entries entry rising later i j d before within = by_place (nat_lt j (length entries)) refl
  where
    long : length (entries ++ entry ∷ []) ≡ length entries + 1
    long = length-append entries (entry ∷ [])

    by_place : (b : Bool) → nat_lt j (length entries) ≡ b → (get_or (entries ++ entry ∷ []) i d).ticket < (get_or (entries ++ entry ∷ []) j d).ticket
    by_place true e =
        let inside : j < length entries = ltb-true _ _ e in
        let first : i < length entries = omega arith in
        rw (get_or-append entries (entry ∷ []) d i first, get_or-append entries (entry ∷ []) d j inside) (rising i j d before inside)
    by_place false e =
        let outside : length entries ≤ j = ltb-false _ _ e in
        let last : j ≡ length entries = omega (arith, long) in
        let first : i < length entries = omega arith in
        rw (get_or-append entries (entry ∷ []) d i first, last, get_or-append_seam entries entry [] d) (later i d first)
