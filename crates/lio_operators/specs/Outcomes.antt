-- What an operator gives without memory: a small value, or a fault that keeps nothing. Where it makes a text, a label or a list, or gives an item of one, it gives neither.
use Rattle.std.specs.Prelude.{◌≡◌, Bool, true, false, Result, Ok, Err}
use Rattle.lio_values.specs.declared.value.Plain.{Plain}
use Rattle.lio_values.specs.declared.value.Plain.TheVariants.{Unit as unit, Flag, Whole, Bytes, Lab, RefOf, VarOf, ResultOf, ChanOf, Items}
use Rattle.lio_values.specs.declared.value.Value.{Value}
use Rattle.lio_values.specs.declared.value.Value.TheVariants.{Bare, Sealed}
use Rattle.lio_values.specs.declared.fault.FaultKind.{FaultKind}
use Rattle.lio_values.specs.declared.small.Small.{Small}
use Rattle.lio_values.specs.declared.small.Trap.{Trap}
use Rattle.lio_values.specs.Small.{plain_of, kind_of}
use Rattle.lio_syntax_lines.specs.declared.operators.One.{One}
use Rattle.lio_syntax_lines.specs.declared.operators.One.TheVariants.{Str, LabelOf}
use Rattle.lio_syntax_lines.specs.declared.operators.Two.{Two}
use Rattle.lio_syntax_lines.specs.declared.operators.Two.TheVariants.{Add, Join, Meet, From, Upto, Push, At}
use Rattle.lio_operators.specs.declared.outcome.Outcome.{Outcome}
use Rattle.lio_operators.specs.declared.outcome.Outcome.TheVariants as outcome

-- what a small value or a trap is
abbrev pub given_by : Result Small Trap → Result Plain FaultKind
given_by (Ok small) = Ok (plain_of small)
given_by (Err trap) = Err (kind_of trap)

-- whether an outcome leaves to be made what takes memory
abbrev pub is_large : Outcome → Bool
is_large (outcome.Value small) = false
is_large (outcome.Fault trap) = false
is_large outcome.Large = true

-- an outcome that isn't large is what is given
abbrev pub Tells : Outcome → Result Value FaultKind → Type 0
Tells (outcome.Value small) given = given ≡ Ok (Bare (plain_of small))
Tells (outcome.Fault trap) given = given ≡ Err (kind_of trap)
Tells outcome.Large given = Unit {0}

-- whether an operator on two texts makes a text, if it doesn't fail
abbrev pub joins : Two → Bool
joins Add = true
joins two = false

-- whether one on a text and a whole does
abbrev pub cuts : Two → Bool
cuts From = true
cuts Upto = true
cuts two = false

-- whether one on two labels makes a label
abbrev pub bounds : Two → Bool
bounds Join = true
bounds Meet = true
bounds two = false

-- whether one on a text and another value makes a text, if it doesn't fail
abbrev pub text_makes_large : Two → Plain → Bool
text_makes_large two (Bytes b) = joins two
text_makes_large two (Whole at) = cuts two
text_makes_large two b = false

-- whether one on a label and another value makes a label, if it doesn't fail
abbrev pub label_makes_large : Two → Plain → Bool
label_makes_large two (Lab b) = bounds two
label_makes_large two b = false

-- whether one on a list and another value gives a value that takes memory, if it doesn't fail
abbrev pub list_makes_large : Two → Plain → Bool
list_makes_large Push b = true
list_makes_large Add (Items others) = true
list_makes_large At (Whole at) = true
list_makes_large From (Whole at) = true
list_makes_large Upto (Whole at) = true
list_makes_large two b = false

-- whether an operator on two plain values makes a text, a label or a list, or gives an item, if it doesn't fail
abbrev pub makes_large2 : Two → Plain → Plain → Bool
makes_large2 two (Bytes a) b = text_makes_large two b
makes_large2 two (Lab a) b = label_makes_large two b
makes_large2 two (Items a) b = list_makes_large two b
makes_large2 two a b = false

-- whether a plain value is printed
abbrev pub is_printed : Plain → Bool
is_printed unit = true
is_printed (Flag flag) = true
is_printed (Whole number) = true
is_printed plain = false

-- whether a plain value is a handle
abbrev pub is_handle : Plain → Bool
is_handle (RefOf handle) = true
is_handle (VarOf handle) = true
is_handle (ResultOf handle) = true
is_handle (ChanOf handle) = true
is_handle plain = false

-- whether an operator on a plain value makes a text or a label, if it doesn't fail
abbrev pub plain_makes_large : One → Plain → Bool
plain_makes_large Str a = is_printed a
plain_makes_large LabelOf a = is_handle a
plain_makes_large one a = false

-- whether one on a sealed value gives its label
abbrev pub sealed_makes_large : One → Bool
sealed_makes_large LabelOf = true
sealed_makes_large one = false

-- whether an operator on one value makes a text or a label, if it doesn't fail
abbrev pub makes_large1 : One → Value → Bool
makes_large1 one (Bare a) = plain_makes_large one a
makes_large1 one (Sealed label content) = sealed_makes_large one
