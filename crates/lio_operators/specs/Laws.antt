-- The laws of operators: they don't see what is hidden, what they give is a bare flag, whole, text or label or made of parts of the operands, and no text that
-- they make is too long.
use Rattle.std.specs.Prelude.{◌≡◌, ◌≤◌, ◌⊎◌, ℕ, List, [], All, length, Result, Ok, Err}
use Rattle.std.specs.List.{Contains}
use Rattle.lio_labels.specs.declared.label.Label.{Label}
use Rattle.lio_values.specs.declared.value.Plain.{Plain}
use Rattle.lio_values.specs.declared.value.Plain.TheVariants.{Flag, Whole, Bytes, Lab, Items}
use Rattle.lio_values.specs.declared.value.Value.{Value}
use Rattle.lio_values.specs.declared.value.Value.TheVariants.{Bare, Sealed}
use Rattle.lio_values.specs.declared.fault.FaultKind.{FaultKind}
use Rattle.lio_values.specs.declared.fault.FaultKind.TheVariants.{User}
use Rattle.lio_values.specs.Erasure.{erase_value}
use Rattle.lio_values.specs.Views.{values_of}
use Rattle.lio_syntax_lines.specs.declared.operators.One.{One}
use Rattle.lio_syntax_lines.specs.declared.operators.Two.{Two}
use Rattle.lio_syntax_lines.specs.declared.operators.Two.TheVariants.{At}
use Rattle.lio_operators.specs.Operators.{operate1, operate2}

-- what an operator gives, as an observer sees it
abbrev pub hide_result : Label → Result Value FaultKind → Result Value FaultKind
hide_result observer (Ok value) = Ok (erase_value observer value)
hide_result observer (Err kind) = Err kind

-- an operator gives on values as an observer sees them what it gives on the values themselves, as the observer sees that
abbrev pub HiddenFromOne : Type 0
HiddenFromOne = (observer : Label) (longest : ℕ) (op : One) (a : Value) → operate1 longest op (erase_value observer a) ≡ hide_result observer (operate1 longest op a)

abbrev pub HiddenFromTwo : Type 0
HiddenFromTwo = (observer : Label) (longest : ℕ) (op : Two) (a b : Value)
    → operate2 longest op (erase_value observer a) (erase_value observer b) ≡ hide_result observer (operate2 longest op a b)

-- a bare flag, whole, text or label
abbrev pub IsSimple : Plain → Type 0
IsSimple (Flag flag) = Unit {0}
IsSimple (Whole number) = Unit {0}
IsSimple (Bytes text) = Unit {0}
IsSimple (Lab label) = Unit {0}
IsSimple plain = ⊥

-- a fault that no script throws, and so one without a value
abbrev pub IsUnthrown : FaultKind → Type 0
IsUnthrown (User plain) = ⊥
IsUnthrown kind = Unit {0}

abbrev pub IsPublic : Result Value FaultKind → Type 0
IsPublic (Ok (Bare plain)) = IsSimple plain
IsPublic (Ok (Sealed label content)) = ⊥
IsPublic (Err kind) = IsUnthrown kind

-- what an operator on one value gives is a bare flag, whole, text or label, or a fault without a value
abbrev pub OneGivesSimple : Type 0
OneGivesSimple = (longest : ℕ) (op : One) (a : Value) → IsPublic (operate1 longest op a)

-- the items of a list
abbrev pub items_in : Value → List Value
items_in (Bare (Items items)) = values_of items
items_in value = []

-- a value is an item of an operand, or the right operand
abbrev pub IsPartOf : Value → Value → Value → Type 0
IsPartOf a b value = Contains (items_in a) value ⊎ (Contains (items_in b) value ⊎ (value ≡ b))

-- a list of such values
abbrev pub IsListOf : Value → Value → Value → Type 0
IsListOf a b (Bare (Items items)) = All (IsPartOf a b) (values_of items)
IsListOf a b value = ⊥

-- a bare flag, whole, text or label, an item of the left operand, or a list of parts of the operands; or a fault without a value
abbrev pub IsMadeOf : Value → Value → Result Value FaultKind → Type 0
IsMadeOf a b (Ok value) = IsPublic (Ok value) ⊎ (Contains (items_in a) value ⊎ IsListOf a b value)
IsMadeOf a b (Err kind) = IsUnthrown kind

-- what an operator on two values gives is made of them
abbrev pub TwoGiveParts : Type 0
TwoGiveParts = (longest : ℕ) (op : Two) (a b : Value) → IsMadeOf a b (operate2 longest op a b)

-- a value whose text, if it is one, has at most so many bytes
abbrev pub IsShort : ℕ → Value → Type 0
IsShort longest (Bare (Bytes text)) = length text ≤ longest
IsShort longest value = Unit {0}

abbrev pub GivesShort : ℕ → Result Value FaultKind → Type 0
GivesShort longest (Ok value) = IsShort longest value
GivesShort longest (Err kind) = Unit {0}

-- a text that an operator on one value gives has at most so many bytes as texts may have
abbrev pub OneGivesShort : Type 0
OneGivesShort = (longest : ℕ) (op : One) (a : Value) → GivesShort longest (operate1 longest op a)

-- nor has a text that an operator on two values gives more, but that an item of a list, which `at` gives, is as it was
abbrev pub TwoGiveShort : Type 0
TwoGiveShort = (longest : ℕ) (op : Two) (a b : Value) → (op ≡ At → ⊥) → GivesShort longest (operate2 longest op a b)
