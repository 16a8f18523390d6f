-- The lines of a script at which the tasks of a run stood, a line for each turn.
use Rattle.std.specs.Prelude.{ℕ, ◌+◌, List, [], ◌∷◌, ◌++◌, codes, decimal, get_or}
use Rattle.lio_values.specs.declared.entry.Entry.{Entry}

-- the line of a turn: its ticket, its task, and the number of a line of the script
abbrev pub turn_line : ℕ → Entry → List ℕ
turn_line number entry = decimal entry.ticket ++ codes " " ++ decimal entry.actor ++ codes " " ++ decimal number ++ codes "\n"

-- the lines of turns, the first of which has this place among the numbers
abbrev pub turn_lines : List ℕ → ℕ → List Entry → List ℕ
turn_lines numbers place [] = []
turn_lines numbers place (entry ∷ entries) = turn_line (get_or numbers place 0) entry ++ turn_lines numbers (place + 1) entries
