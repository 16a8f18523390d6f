-- What the code's views of operands show.
use Rattle.std.specs.Prelude.{Option, Some, None}
use Rattle.std.specs.Borrow.{Bor}
use Rattle.std.specs.Option.{option_map}
use Rattle.lio_labels.specs.declared.label.Label.{Label}
use Rattle.lio_values.specs.declared.value.Content.{Content}
use Rattle.lio_values.specs.declared.value.Value.{Value}
use Rattle.lio_values.specs.declared.value.Value.TheVariants.{Bare, Sealed}
use Rattle.lio_syntax_lines.specs.declared.line.Operand.{Operand}
use Rattle.lio_syntax_lines.specs.declared.line.Operand.TheVariants.{Name, Literal}
use Rattle.lio_calculus.specs.Operands.{Labelled, pure_of}

-- a sealed value where it stands
abbrev pub sealed_now : Option (Bor Label × Bor Content) → Option Labelled
sealed_now found = option_map (λ p. record { label = p.0.now; content = p.1.now }) found

-- a sealed value
abbrev pub sealed_value_of : Value → Option Value
sealed_value_of (Bare plain) = None
sealed_value_of (Sealed label content) = Some (Sealed label content)

-- the value of a literal
abbrev pub literal_of : Operand → Option Value
literal_of (Name name) = None
literal_of (Literal plain) = option_map Bare (pure_of plain)
