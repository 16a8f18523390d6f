-- Plain values and kinds of faults that take no memory.
use Rattle.std.specs.Prelude.{Option, Some, None}
use Rattle.lio_values.specs.declared.value.Plain.{Plain}
use Rattle.lio_values.specs.declared.value.Plain.TheVariants as plain
use Rattle.lio_values.specs.declared.fault.FaultKind.{FaultKind}
use Rattle.lio_values.specs.declared.fault.FaultKind.TheVariants as fault
use Rattle.lio_values.specs.declared.small.Small.{Small}
use Rattle.lio_values.specs.declared.small.Small.TheVariants as small
use Rattle.lio_values.specs.declared.small.Trap.{Trap}
use Rattle.lio_values.specs.declared.small.Trap.TheVariants as trap

-- the plain value that a small one is
abbrev pub plain_of : Small → Plain
plain_of small.Unit = plain.Unit
plain_of (small.Flag flag) = plain.Flag flag
plain_of (small.Whole number) = plain.Whole number

-- the kind of fault that a trap is
abbrev pub kind_of : Trap → FaultKind
kind_of trap.BadType = fault.BadType
kind_of trap.Overflow = fault.Overflow
kind_of trap.DivZero = fault.DivZero

-- the small value that a plain value is, if it is one
abbrev pub small_of : Plain → Option Small
small_of plain.Unit = Some small.Unit
small_of (plain.Flag flag) = Some (small.Flag flag)
small_of (plain.Whole number) = Some (small.Whole number)
small_of other = None
