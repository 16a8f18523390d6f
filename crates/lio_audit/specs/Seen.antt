-- Words for the contracts of a view that is checked line by line.
use Rattle.std.specs.Prelude.{◌≡◌, ℕ, Bool, true, false, List, []}
use Rattle.lio_values.specs.declared.entry.Entry.{Entry}
use Rattle.lio_events.specs.JournalText.{entry_text}
use Rattle.lio_events_reading.specs.Lines.{IsOnlySeen, StandsInFront}
use Rattle.lio_events_reading.specs.Over.{IsEntryOver}
use Rattle.lio_calculus.specs.Erased.{LowTurn}
use Rattle.lio_erasure.specs.LowParts.{ErasedState}
use Rattle.lio_audit.specs.View.{IsSeenTurn}

-- the erased turn that an entry shows was taken, with the contents that the entry releases; or there is none
abbrev pub Follows : ErasedState → ErasedState → Entry → Bool → Type 0
Follows old new entry true = IsSeenTurn old.observer old.configuration (record { entry = entry; next = new.configuration; left = [] }) × (new.observer ≡ old.observer)
Follows old new entry false = (turn : LowTurn) → turn.entry ≡ entry → IsSeenTurn old.observer old.configuration turn → ⊥

-- The line at the front of bytes was that of an erased turn, and the turn was taken.
pub record TakesSeenLine (names : List (List ℕ)) (old new : ErasedState) (bytes : List ℕ) (len : ℕ) : Type 0 where
  pub entry : Entry
  pub over : IsEntryOver names entry
  pub ticket : entry.ticket ≡ 0
  pub line : StandsInFront (entry_text names false entry) bytes len
  -- and it is that of no other entry
  pub only : IsOnlySeen names 0 bytes entry
  pub is_turn : IsSeenTurn old.observer old.configuration (record { entry = entry; next = new.configuration; left = [] })
  pub observer : new.observer ≡ old.observer
