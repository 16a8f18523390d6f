-- Operators on two flags, and on two units.
use Rattle.std.specs.Prelude.{not, Bool, true, false, ◌&&◌, ◌||◌, if◌then◌else◌, Result, Ok, Err}
use Rattle.lio_values.specs.declared.value.Plain.{Plain}
use Rattle.lio_values.specs.declared.value.Plain.TheVariants.{Flag}
use Rattle.lio_values.specs.declared.fault.FaultKind.{FaultKind}
use Rattle.lio_values.specs.declared.fault.FaultKind.TheVariants.{BadType}
use Rattle.lio_syntax_lines.specs.declared.operators.Two.{Two}
use Rattle.lio_syntax_lines.specs.declared.operators.Two.TheVariants.{Eq, Ne, And, Or}

-- whether two flags are equal
abbrev pub same_flag : Bool → Bool → Bool
same_flag a b = if a then b else not b

abbrev pub on_flags : Two → Bool → Bool → Result Plain FaultKind
on_flags Eq a b = Ok (Flag (same_flag a b))
on_flags Ne a b = Ok (Flag (not (same_flag a b)))
on_flags And a b = Ok (Flag (a && b))
on_flags Or a b = Ok (Flag (a || b))
on_flags two a b = Err BadType

abbrev pub on_units : Two → Result Plain FaultKind
on_units Eq = Ok (Flag true)
on_units Ne = Ok (Flag false)
on_units two = Err BadType
