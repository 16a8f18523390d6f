-- The law of printing and erasure.
use Rattle.std.specs.Prelude.{ℕ, List}
use Rattle.lio_labels.specs.declared.label.Label.{Label}
use Rattle.lio_values.specs.declared.entry.Entry.{Entry}
use Rattle.lio_values.specs.Erasure.{erase_entry}
use Rattle.lio_events.specs.Printable.{IsPrintable}

-- an entry that can be printed can be printed after erasure too
abbrev pub ErasedIsPrintable : Type 0
ErasedIsPrintable = (names : List (List ℕ)) (observer : Label) (entry : Entry) → IsPrintable names entry → IsPrintable names (erase_entry observer entry)
