-- How many clauses a formula may have.
use Rattle.std.specs.Prelude.{ℕ, List, ◌<◌, length}

-- a formula is wide where it has more than 64 clauses
abbrev pub IsWide : List (List ℕ) → Type 0
IsWide A = 64 < length A
