-- The tickets of a journal.
use Rattle.std.specs.Prelude.{◌<◌, List, All, AllPairs}
use Rattle.lio_values.specs.declared.entry.Entry.{Entry}

-- each ticket is less than those after it
abbrev pub AreRising : List Entry → Type 0
AreRising entries = AllPairs (λ before after. before.ticket < after.ticket) entries

-- a ticket is greater than all of the entries
abbrev pub IsLater : List Entry → Entry → Type 0
IsLater entries entry = All (λ before. before.ticket < entry.ticket) entries
