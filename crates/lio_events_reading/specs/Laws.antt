-- The laws of the text of entries, over the names of principals.
use Rattle.std.specs.Prelude.{◌≡◌, ℕ, Bool, true, All, List, length}
use Rattle.lio_clauses.specs.Names.{AreNames}
use Rattle.lio_values.specs.declared.entry.Entry.{Entry}
use Rattle.lio_events.specs.JournalText.{entry_text, journal_text}
use Rattle.lio_events.specs.Printable.{IsPrintable}
use Rattle.lio_events_reading.specs.Lines.{IsOneLine, line_ends}
use Rattle.lio_events_reading.specs.Over.{IsEntryOver}

-- two entries over the names that have the same text, with their tickets, are equal
abbrev pub TextIsOfOne : Type 0
TextIsOfOne = (names : List (List ℕ)) (one other : Entry) → AreNames names → IsEntryOver names one → IsEntryOver names other → entry_text names true one ≡ entry_text names true other → one ≡ other

-- the text of an entry that can be printed, with its ticket or without, is one line
abbrev pub TextIsOneLine : Type 0
TextIsOneLine = (names : List (List ℕ)) (ticket : Bool) (entry : Entry) → AreNames names → IsPrintable names entry → IsOneLine (entry_text names ticket entry)

-- so a journal has as many lines as entries
abbrev pub LinesAreEntries : Type 0
LinesAreEntries = (names : List (List ℕ)) (ticket : Bool) (entries : List Entry) → AreNames names → All (IsPrintable names) entries → line_ends (journal_text names ticket entries) ≡ length entries
