-- Operators on two wholes.
use Rattle.std.specs.Prelude.{not, if◌then◌else◌, ℤ, pos, ◌+ℤ◌, ◌-ℤ◌, ◌*ℤ◌, int_div, int_rem, int_lt, int_le, Result, Ok, Err}
use Rattle.std.specs.Ordering.{int_eq}
use Rattle.lio_values.specs.declared.value.Plain.{Plain}
use Rattle.lio_values.specs.declared.value.Plain.TheVariants.{Flag, Whole}
use Rattle.lio_values.specs.declared.fault.FaultKind.{FaultKind}
use Rattle.lio_values.specs.declared.fault.FaultKind.TheVariants.{BadType, Overflow, DivZero}
use Rattle.lio_syntax_lines.specs.declared.operators.Two.{Two}
use Rattle.lio_syntax_lines.specs.declared.operators.Two.TheVariants.{Add, Sub, Mul, Div, Rem, Eq, Ne, Lt, Le}
use Rattle.lio_syntax_lines.specs.Literals.{is_whole}

-- a number, where it has 64 bits with sign
abbrev pub fitting : ℤ → Result Plain FaultKind
fitting number = if is_whole number then Ok (Whole number) else Err Overflow

-- what a division gives: a number, where the divisor isn't 0 and the quotient has 64 bits with sign
abbrev pub divided : ℤ → ℤ → ℤ → Result Plain FaultKind
divided a b number = if int_eq b (pos 0) then Err DivZero else (if is_whole (int_div a b) then Ok (Whole number) else Err Overflow)

-- the quotient is cut towards zero, and the rest has the sign of the left one
abbrev pub on_wholes : Two → ℤ → ℤ → Result Plain FaultKind
on_wholes Add a b = fitting (a +ℤ b)
on_wholes Sub a b = fitting (a -ℤ b)
on_wholes Mul a b = fitting (a *ℤ b)
on_wholes Div a b = divided a b (int_div a b)
on_wholes Rem a b = divided a b (int_rem a b)
on_wholes Eq a b = Ok (Flag (int_eq a b))
on_wholes Ne a b = Ok (Flag (not (int_eq a b)))
on_wholes Lt a b = Ok (Flag (int_lt a b))
on_wholes Le a b = Ok (Flag (int_le a b))
on_wholes two a b = Err BadType
