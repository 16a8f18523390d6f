-- Lines: the form of each, its text, what it is made of, its operands. Those of a procedure or a block stand here, those of other statements in `Simple`.
use Rattle.std.specs.Prelude.{ℕ, ◌≤◌, if◌then◌else◌, Bool, List, [], ◌∷◌, ◌++◌, length, Option, All}
use Rattle.std.specs.List.{list_all}
use Rattle.std.specs.Option.{option_map}
use Rattle.lio_syntax_lines.specs.declared.keyword.Keyword.{Keyword}
use Rattle.lio_syntax_lines.specs.declared.keyword.Keyword.TheVariants as keyword
use Rattle.lio_syntax_lines.specs.declared.line.Operand.{Operand}
use Rattle.lio_syntax_lines.specs.declared.line.Line.{Line}
use Rattle.lio_syntax_lines.specs.declared.line.Line.TheVariants.{Proc, If, Else, While, Try, Catch, End, Do}
use Rattle.lio_syntax_lines.specs.declared.line.ParsedLine.{ParsedLine}
use Rattle.lio_syntax_lines.specs.declared.line.ParsedLine.TheVariants.{Blank, Invalid, Says}
use Rattle.lio_syntax_lines.specs.Keyword.{keyword_of, word_of}
use Rattle.lio_syntax_lines.specs.Words.{words, without_return, spaced, names_spaced}
use Rattle.lio_syntax_lines.specs.Literals.{IsName}
use Rattle.lio_syntax_lines.specs.Operands.{IsOperand, is_said, operand_spaced}
use Rattle.lio_syntax_lines.specs.Forms.{◌>>=◌, ended, one, two_names, header, parsed, begins_comment}
use Rattle.lio_syntax_lines.specs.Simple.{simple, simple_text, IsSimple, simple_operands}

-- the line that begins with the word: one of a procedure or a block, or else a statement that opens no block
unfoldable pub form : List (List ℕ) → Keyword → List (List ℕ) → Option Line
form names keyword.Proc ws = option_map (λ p. Proc p.0 p.1) (header ws)
form names keyword.If ws = option_map If (one names ws)
form names keyword.Else ws = ended Else ws
form names keyword.While ws = option_map While (one names ws)
form names keyword.Try ws = ended Try ws
form names keyword.Catch ws = option_map (λ p. Catch p.0 p.1) (two_names ws)
form names keyword.End ws = ended End ws
form names first ws = option_map Do (simple names first ws)

-- the line that begins with the word
abbrev pub words_line : List (List ℕ) → List ℕ → List (List ℕ) → Option Line
words_line names first ws = keyword_of first >>= λ keyword. form names keyword ws

-- the line of these words
unfoldable pub line_of_words : List (List ℕ) → List (List ℕ) → ParsedLine
line_of_words names [] = Blank
line_of_words names (first ∷ ws) =
    if begins_comment first then Blank else parsed (words_line names first ws)

-- the line of these bytes, which stand before its line end
abbrev pub line_of : List (List ℕ) → List ℕ → ParsedLine
line_of names bytes = line_of_words names (words (without_return bytes))

-- a line, without its line end
abbrev pub line_text : List (List ℕ) → Line → List ℕ
line_text names (Proc p parameters) = word_of keyword.Proc ++ spaced p ++ names_spaced parameters
line_text names (If a) = word_of keyword.If ++ operand_spaced names a
line_text names Else = word_of keyword.Else
line_text names (While a) = word_of keyword.While ++ operand_spaced names a
line_text names Try = word_of keyword.Try
line_text names (Catch x y) = word_of keyword.Catch ++ spaced x ++ spaced y
line_text names End = word_of keyword.End
line_text names (Do simple) = simple_text names simple

-- a line, over the names of principals
abbrev pub IsLine : List (List ℕ) → Line → Type 0
IsLine names (Proc p parameters) = IsName p × All IsName parameters × (length parameters ≤ 8)
IsLine names (If a) = IsOperand names a
IsLine names Else = Unit {0}
IsLine names (While a) = IsOperand names a
IsLine names Try = Unit {0}
IsLine names (Catch x y) = IsName x × IsName y
IsLine names End = Unit {0}
IsLine names (Do simple) = IsSimple names simple

-- how a line is read, over the names of principals
abbrev pub IsParsed : List (List ℕ) → ParsedLine → Type 0
IsParsed names Blank = Unit {0}
IsParsed names Invalid = Unit {0}
IsParsed names (Says line) = IsLine names line

-- the operands of a line
abbrev pub line_operands : Line → List Operand
line_operands (Proc p parameters) = []
line_operands (If a) = a ∷ []
line_operands Else = []
line_operands (While a) = a ∷ []
line_operands Try = []
line_operands (Catch x y) = []
line_operands End = []
line_operands (Do statement) = simple_operands statement

-- each literal in a line is such a value
abbrev pub says_literals : Line → Bool
says_literals line = list_all is_said (line_operands line)
