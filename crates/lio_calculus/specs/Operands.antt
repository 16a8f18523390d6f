-- What operands stand for, and what kind of value that is. A view of a value is there where the value is bound and of the kind that is asked.
use Rattle.std.specs.Prelude.{ℕ, ◌^◌, ℤ, pos, negsuc, Bool, nat_lt, if◌then◌else◌, List, [], ◌∷◌, Option, Some, None, option_and_then}
use Rattle.std.specs.Option.{option_map}
use Rattle.lio_labels.specs.declared.label.Label.{Label}
use Rattle.lio_labels.specs.declared.privilege.Priv.{Priv}
use Rattle.lio_values.specs.declared.value.Handle.{Handle}
use Rattle.lio_values.specs.declared.value.Plain.{Plain}
use Rattle.lio_values.specs.declared.value.Plain.TheVariants.{Flag, Whole, Bytes, Lab, Power, RefOf, VarOf, ResultOf, ChanOf}
use Rattle.lio_values.specs.declared.value.Content.{Content}
use Rattle.lio_values.specs.declared.value.Value.{Value}
use Rattle.lio_values.specs.declared.value.Value.TheVariants.{Bare, Sealed}
use Rattle.lio_values.specs.Measures.{is_pure}
use Rattle.lio_syntax_lines.specs.declared.line.Operand.{Operand}
use Rattle.lio_syntax_lines.specs.declared.line.Operand.TheVariants.{Name, Literal}
use Rattle.lio_syntax.specs.Environment.{Environment, value_of}

-- a plain value, where it is pure
abbrev pub pure_of : Plain → Option Plain
pure_of plain = if is_pure plain then Some plain else None

-- what an operand stands for; a literal is pure
abbrev pub bound : Environment → Operand → Option Value
bound environment (Name name) = value_of environment name
bound environment (Literal plain) = option_map Bare (pure_of plain)

-- what operands stand for, where all are bound
unfoldable pub all_bound : Environment → List Operand → Option (List Value)
all_bound environment [] = Some []
all_bound environment (operand ∷ operands) =
    option_and_then (λ value. option_map (λ values. value ∷ values) (all_bound environment operands)) (bound environment operand)

-- a bare value
abbrev pub bare_of : Value → Option Plain
bare_of (Bare plain) = Some plain
bare_of (Sealed label content) = None

-- a sealed value: its label and what it holds
pub record Labelled : Type 0 where
  pub label : Label
  pub content : Content

abbrev pub sealed_of : Value → Option Labelled
sealed_of (Bare plain) = None
sealed_of (Sealed label content) = Some (record { label = label; content = content })

-- the kinds of plain values
abbrev pub flag_of : Plain → Option Bool
flag_of (Flag flag) = Some flag
flag_of plain = None

abbrev pub label_of : Plain → Option Label
label_of (Lab label) = Some label
label_of plain = None

abbrev pub power_of : Plain → Option Priv
power_of (Power power) = Some power
power_of plain = None

abbrev pub text_of : Plain → Option (List ℕ)
text_of (Bytes text) = Some text
text_of plain = None

-- a number of 32 bits
abbrev pub count_from : ℤ → Option ℕ
count_from (pos n) = if nat_lt n (2 ^ 32) then Some n else None
count_from (negsuc n) = None

-- a whole from 0 to 4,294,967,295
abbrev pub count_of : Plain → Option ℕ
count_of (Whole number) = count_from number
count_of plain = None

abbrev pub reference_of : Plain → Option Handle
reference_of (RefOf handle) = Some handle
reference_of plain = None

abbrev pub variable_of : Plain → Option Handle
variable_of (VarOf handle) = Some handle
variable_of plain = None

abbrev pub result_of : Plain → Option Handle
result_of (ResultOf handle) = Some handle
result_of plain = None

abbrev pub channel_of : Plain → Option Handle
channel_of (ChanOf handle) = Some handle
channel_of plain = None

-- a view of what an operand stands for, where it is bare
abbrev pub seen_as : {X : Type 0} → (Plain → Option X) → Environment → Operand → Option X
seen_as view environment operand = option_and_then (λ value. option_and_then view (bare_of value)) (bound environment operand)
