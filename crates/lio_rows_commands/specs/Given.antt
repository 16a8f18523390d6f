-- What an operator gives can be printed.
use Rattle.std.specs.Prelude.{ℕ, List, Result, Ok, Err}
use Rattle.lio_values.specs.declared.value.Value.{Value}
use Rattle.lio_values.specs.Named.{IsKindNamed, IsValueNamed}
use Rattle.lio_operators.specs.declared.faults.OpFault.{OpFault}
use Rattle.lio_operators.specs.declared.faults.OpFault.TheVariants.{Kind, NoMemory}

-- each principal in what an operator gives, or in its fault, has a name
abbrev pub IsGivenNamed : List (List ℕ) → Result Value OpFault → Type 0
IsGivenNamed names (Ok value) = IsValueNamed names value
IsGivenNamed names (Err (Kind kind)) = IsKindNamed names kind
IsGivenNamed names (Err NoMemory) = Unit {0}
