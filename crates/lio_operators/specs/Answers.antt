-- What the calls answer against what operators give: the same, or want of memory.
use Rattle.std.specs.Prelude.{◌≡◌, ⊤, Result, Ok, Err}
use Rattle.lio_values.specs.declared.fault.FaultKind.{FaultKind}
use Rattle.lio_operators.specs.declared.faults.OpFault.{OpFault}
use Rattle.lio_operators.specs.declared.faults.OpFault.TheVariants.{Kind, NoMemory}

-- a result is what is given, or want of memory
abbrev pub Answers : {X : Type 0} → Result X FaultKind → Result X OpFault → Type 0
Answers given (Ok value) = given ≡ Ok value
Answers given (Err (Kind kind)) = given ≡ Err kind
Answers given (Err NoMemory) = ⊤
