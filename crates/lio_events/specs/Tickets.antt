-- Tickets of views.
use Rattle.std.specs.Prelude.{ℕ, ◌<◌, List, All}
use Rattle.lio_values.specs.declared.entry.Entry.{Entry}

-- each ticket is below a number
abbrev pub AreBelow : ℕ → List Entry → Type 0
AreBelow number entries = All (λ entry. entry.ticket < number) entries
