-- When a name is not added to the names of principals.
use Rattle.std.specs.Prelude.{ℕ, nat_lt, if◌then◌else◌, List, length, Option, Some, None}
use Rattle.lio_clauses.specs.Names.{name_fault, number_of}
use Rattle.lio_clauses.specs.declared.faults.NameFault.{NameFault}
use Rattle.lio_clauses.specs.declared.faults.NameFault.TheVariants.{Again, BadName, TooMany}

-- a name that is there has its number, and there is room for 64
abbrev pub refusal_by_number : List (List ℕ) → Option ℕ → Option NameFault
refusal_by_number names (Some number) = Some (Again number)
refusal_by_number names None = if nat_lt (length names) 64 then None else Some TooMany

-- a name that breaks the rule for names has the place where it does
abbrev pub refusal_by_place : List (List ℕ) → Option ℕ → Option ℕ → Option NameFault
refusal_by_place names number (Some place) = Some (BadName place)
refusal_by_place names number None = refusal_by_number names number

-- why a name is not added to the names: the first cause of a wrong byte, of a name that is there, and of want of room
abbrev pub refusal : List (List ℕ) → List ℕ → Option NameFault
refusal names name = refusal_by_place names (number_of names name) (name_fault name)
