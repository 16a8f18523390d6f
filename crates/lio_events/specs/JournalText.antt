-- The text of a journal: a line for each entry.
use Rattle.std.specs.Prelude.{ℕ, Bool, List, ◌++◌, codes, decimal, if◌then◌else◌}
use Rattle.std.specs.List.{flat_map}
use Rattle.lio_values.specs.declared.entry.Entry.{Entry}
use Rattle.lio_events.specs.EntryText.{line_text}

-- the line of an entry, with its ticket or without
unfoldable pub entry_text : List (List ℕ) → Bool → Entry → List ℕ
entry_text names ticket entry = if ticket then decimal entry.ticket ++ codes " " ++ line_text names entry else line_text names entry

-- the lines of entries, one after another
abbrev pub journal_text : List (List ℕ) → Bool → List Entry → List ℕ
journal_text names ticket entries = flat_map (entry_text names ticket) entries
