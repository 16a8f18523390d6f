-- How many names are read, behind others, where there are at most 8.
use Rattle.std.specs.Prelude.{ℕ, ◌+◌, nat_le, if◌then◌else◌, List, length, Option, Some, None}

abbrev pub limited : ℕ → Option (List (List ℕ)) → Option ℕ
limited count None = None
limited count (Some names) = if nat_le (count + length names) 8 then Some (count + length names) else None
