-- Operands: names and literals, and their texts.
use Rattle.std.specs.Prelude.{ℕ, Bool, true, false, if◌then◌else◌, List, Option, Some, IsTrue}
use Rattle.std.specs.List.{flat_map}
use Rattle.std.specs.Option.{option_map}
use Rattle.lio_values.specs.declared.value.Plain.{Plain}
use Rattle.lio_values.specs.declared.value.Plain.TheVariants.{Unit as unit, Flag, Whole, Bytes, Lab, Power, RefOf, VarOf, ResultOf, ChanOf, Items}
use Rattle.lio_values.specs.Forest.{Nothing, Then}
use Rattle.lio_values.specs.PlainText.{plain_text}
use Rattle.lio_syntax_lines.specs.declared.line.Operand.{Operand}
use Rattle.lio_syntax_lines.specs.declared.line.Operand.TheVariants.{Name, Literal}
use Rattle.lio_syntax_lines.specs.Words.{spaced}
use Rattle.lio_syntax_lines.specs.Literals.{is_name, literal_of, IsLiteral}

-- the operand that a word is, over the names of principals
unfoldable pub operand_of : List (List ℕ) → List ℕ → Option Operand
operand_of names word = if is_name word then Some (Name word) else option_map Literal (literal_of names word)

-- an operand that a word can be
abbrev pub IsOperand : List (List ℕ) → Operand → Type 0
IsOperand names (Name name) = IsTrue (is_name name)
IsOperand names (Literal plain) = IsLiteral names plain

-- a value that a word can say
abbrev pub can_be_said : Plain → Bool
can_be_said unit = true
can_be_said (Flag flag) = true
can_be_said (Whole number) = true
can_be_said (Bytes text) = true
can_be_said (Lab label) = true
can_be_said (Power privilege) = false
can_be_said (RefOf handle) = false
can_be_said (VarOf handle) = false
can_be_said (ResultOf handle) = false
can_be_said (ChanOf handle) = false
can_be_said (Items Nothing) = true
can_be_said (Items (Then item items)) = false

-- a name, or such a value
abbrev pub is_said : Operand → Bool
is_said (Name name) = true
is_said (Literal plain) = can_be_said plain

-- an operand: a name, or the text of a literal
abbrev pub operand_text : List (List ℕ) → Operand → List ℕ
operand_text names (Name name) = name
operand_text names (Literal plain) = plain_text names plain

-- an operand as it is printed, behind a blank
abbrev pub operand_spaced : List (List ℕ) → Operand → List ℕ
operand_spaced names operand = spaced (operand_text names operand)

-- several of them
unfoldable pub operands_spaced : List (List ℕ) → List Operand → List ℕ
operands_spaced names arguments = flat_map (operand_spaced names) arguments
