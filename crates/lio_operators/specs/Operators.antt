-- What operators give, at most so many bytes in a text that is made. What no line speaks of is of the wrong type.
use Rattle.std.specs.Prelude.{ℕ, Bool, not, true, false, List, length, codes, Option, Some, None, ℤ, pos, neg_ℤ, Result, Ok, Err}
use Rattle.std.specs.Fmt.{signed_decimal}
use Rattle.lio_labels.specs.declared.label.Label.{Label}
use Rattle.lio_values.specs.declared.value.Plain.{Plain}
use Rattle.lio_values.specs.declared.value.Plain.TheVariants.{Unit as unit, Flag, Whole, Bytes, Lab, RefOf, VarOf, ResultOf, ChanOf, Items}
use Rattle.lio_values.specs.declared.value.Value.{Value}
use Rattle.lio_values.specs.declared.value.Value.TheVariants.{Bare, Sealed}
use Rattle.lio_values.specs.declared.fault.FaultKind.{FaultKind}
use Rattle.lio_values.specs.declared.fault.FaultKind.TheVariants.{BadType}
use Rattle.lio_syntax_lines.specs.declared.operators.One.{One}
use Rattle.lio_syntax_lines.specs.declared.operators.One.TheVariants.{Not, Neg, Len, Num, Str, LabelOf}
use Rattle.lio_syntax_lines.specs.declared.operators.Two.{Two}
use Rattle.lio_syntax_lines.specs.Literals.{whole_of}
use Rattle.lio_operators.specs.Wholes.{fitting, on_wholes}
use Rattle.lio_operators.specs.Texts.{made, on_texts, on_text_at}
use Rattle.lio_operators.specs.Labels.{on_labels}
use Rattle.lio_operators.specs.Flags.{on_flags, on_units}
use Rattle.lio_operators.specs.Lists.{on_last, list_and}
use Rattle.lio_values.specs.Views.{values_of}

-- a plain value as a bare one
abbrev pub bare : Result Plain FaultKind → Result Value FaultKind
bare (Ok plain) = Ok (Bare plain)
bare (Err kind) = Err kind

-- the other flag
abbrev pub not_of : Plain → Result Plain FaultKind
not_of (Flag flag) = Ok (Flag (not flag))
not_of plain = Err BadType

-- the negative of a whole
abbrev pub neg_of : Plain → Result Plain FaultKind
neg_of (Whole number) = fitting (neg_ℤ number)
neg_of plain = Err BadType

-- the number of bytes of a text, or of items of a list
abbrev pub len_of : Plain → Result Plain FaultKind
len_of (Bytes text) = Ok (Whole (pos (length text)))
len_of (Items items) = Ok (Whole (pos (length (values_of items))))
len_of plain = Err BadType

-- a whole that was read, if there is one
abbrev pub whole_read : Option ℤ → Result Plain FaultKind
whole_read (Some number) = Ok (Whole number)
whole_read None = Err BadType

-- the whole that a text says
abbrev pub num_of : Plain → Result Plain FaultKind
num_of (Bytes text) = whole_read (whole_of text)
num_of plain = Err BadType

-- the text of a flag
abbrev pub flag_text : Bool → List ℕ
flag_text true = codes "true"
flag_text false = codes "false"

-- the text of a whole, a flag or unit
abbrev pub str_of : ℕ → Plain → Result Plain FaultKind
str_of longest (Whole number) = made longest (signed_decimal number)
str_of longest (Flag flag) = made longest (flag_text flag)
str_of longest unit = made longest (codes "unit")
str_of longest plain = Err BadType

-- the label of a handle
abbrev pub label_of : Plain → Result Plain FaultKind
label_of (RefOf handle) = Ok (Lab handle.label)
label_of (VarOf handle) = Ok (Lab handle.label)
label_of (ResultOf handle) = Ok (Lab handle.label)
label_of (ChanOf handle) = Ok (Lab handle.label)
label_of plain = Err BadType

-- operators on a plain value
abbrev pub on_plain : ℕ → One → Plain → Result Plain FaultKind
on_plain longest Not a = not_of a
on_plain longest Neg a = neg_of a
on_plain longest Len a = len_of a
on_plain longest Num a = num_of a
on_plain longest Str a = str_of longest a
on_plain longest LabelOf a = label_of a

-- operators on a sealed value, which see its label alone
abbrev pub on_sealed : One → Label → Result Plain FaultKind
on_sealed LabelOf label = Ok (Lab label)
on_sealed one label = Err BadType

-- what an operator on one value gives
unfoldable pub operate1 : ℕ → One → Value → Result Value FaultKind
operate1 longest op (Bare a) = bare (on_plain longest op a)
operate1 longest op (Sealed label content) = bare (on_sealed op label)

-- operators on a flag, a whole, a text or a label and another value
abbrev pub flag_and : Two → Bool → Plain → Result Plain FaultKind
flag_and two a (Flag b) = on_flags two a b
flag_and two a b = Err BadType

abbrev pub unit_and : Two → Plain → Result Plain FaultKind
unit_and two unit = on_units two
unit_and two b = Err BadType

abbrev pub whole_and : Two → ℤ → Plain → Result Plain FaultKind
whole_and two a (Whole b) = on_wholes two a b
whole_and two a b = Err BadType

abbrev pub text_and : ℕ → Two → List ℕ → Plain → Result Plain FaultKind
text_and longest two a (Bytes b) = on_texts longest two a b
text_and longest two a (Whole at) = on_text_at longest two a at
text_and longest two a b = Err BadType

abbrev pub label_and : Two → Label → Plain → Result Plain FaultKind
label_and two a (Lab b) = on_labels two a b
label_and two a b = Err BadType

-- operators on two plain values
abbrev pub on_plains : ℕ → Two → Plain → Plain → Result Plain FaultKind
on_plains longest two unit b = unit_and two b
on_plains longest two (Flag a) b = flag_and two a b
on_plains longest two (Whole a) b = whole_and two a b
on_plains longest two (Bytes a) b = text_and longest two a b
on_plains longest two (Lab a) b = label_and two a b
on_plains longest two a b = Err BadType

-- operators on two bare values
abbrev pub on_bare : ℕ → Two → Plain → Plain → Result Value FaultKind
on_bare longest op (Items items) b = list_and longest op items b
on_bare longest op a b = bare (on_plains longest op a b)

-- operators on a bare value and a sealed one: `push` alone takes one
abbrev pub on_bare_and_sealed : ℕ → Two → Plain → Value → Result Value FaultKind
on_bare_and_sealed longest op (Items items) b = on_last longest op items b
on_bare_and_sealed longest op a b = Err BadType

-- what an operator on two values gives
unfoldable pub operate2 : ℕ → Two → Value → Value → Result Value FaultKind
operate2 longest op (Bare a) (Bare b) = on_bare longest op a b
operate2 longest op (Bare a) (Sealed label content) = on_bare_and_sealed longest op a (Sealed label content)
operate2 longest op (Sealed label content) b = Err BadType
