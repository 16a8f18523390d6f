-- Which text is which script, and where the fault of another text is.
use Rattle.std.specs.Prelude.{◌≡◌, ℕ, ◌+◌, ◌==◌, Bool, not, nat_lt, if◌then◌else◌, List, [], ◌∷◌, ◌++◌, length, map, All, Option, Some, None}
use Rattle.std.specs.List.{onto_first}
use Rattle.lio_syntax_lines.specs.declared.line.Line.{Line}
use Rattle.lio_syntax_lines.specs.declared.line.ParsedLine.{ParsedLine}
use Rattle.lio_syntax_lines.specs.declared.line.ParsedLine.TheVariants.{Blank, Invalid, Says}
use Rattle.lio_syntax_lines.specs.Line.{line_of}
use Rattle.lio_syntax_lines.specs.Line.{IsLine}
use Rattle.lio_syntax.specs.declared.open_block.OpenBlock.{OpenBlock}
use Rattle.lio_syntax.specs.Lines.{script_lines}
use Rattle.lio_syntax.specs.OpenBlocks.{open_behind}
use Rattle.lio_syntax.specs.Rules.{broken_rule}
use Rattle.lio_syntax.specs.Statements.{Procedure}

-- a place of a fault: its line, from 1, and the rule that the line breaks
pub record Place : Type 0 where
  pub line : ℕ
  pub rule : ℕ

-- whether a byte is no line end
abbrev pub is_inside : ℕ → Bool
is_inside byte = not (byte == 10)

-- the lines of a text: each ends at its line end, and the last one may go without where it isn't empty
unfoldable pub text_lines : List ℕ → List (List ℕ)
text_lines [] = []
text_lines (byte ∷ bytes) = if byte == 10 then [] ∷ text_lines bytes else onto_first byte (text_lines bytes)

-- the lines as they are read
abbrev pub parsed_lines : List (List ℕ) → List ℕ → List ParsedLine
parsed_lines names text = map (line_of names) (text_lines text)

-- what lines say: those that are neither blank nor invalid
unfoldable pub said : List ParsedLine → List Line
said [] = []
said (Blank ∷ lines) = said lines
said (Invalid ∷ lines) = said lines
said (Says line ∷ lines) = line ∷ said lines

-- behind the last line nothing may be open, or rule 2 is broken there
abbrev pub unclosed : ℕ → List OpenBlock → Option Place
unclosed line [] = None
unclosed line (innermost ∷ outer) = Some (record { line = line; rule = 2 })

-- a rule that a line breaks, or else what is behind it
abbrev pub fault_or : Option ℕ → ℕ → Option Place → Option Place
fault_or (Some rule) line behind = Some (record { line = line; rule = rule })
fault_or None line behind = behind

-- the first line that breaks a rule, with the lowest rule that it breaks: among all lines, behind the lines before
unfoldable pub first_fault : List ParsedLine → List ParsedLine → List ParsedLine → Option Place
first_fault all before [] = unclosed (length before + 1) (open_behind before)
first_fault all before (line ∷ lines) = fault_or (broken_rule all before line) (length before + 1) (first_fault all (before ++ line ∷ []) lines)

-- where the lines of a text break a rule first
abbrev pub lines_fault : List ParsedLine → Option Place
lines_fault all = first_fault all [] all

-- where a text breaks a rule first; more than 262,144 bytes break rule 7 at line 0, before all else
unfoldable pub script_fault : List (List ℕ) → List ℕ → Option Place
script_fault names text = if nat_lt 262144 (length text) then Some (record { line = 0; rule = 7 }) else lines_fault (parsed_lines names text)

-- The text is that of the script, over the names of principals: it breaks no rule, and what its lines say is the script.
pub record IsScript (names : List (List ℕ)) (text : List ℕ) (script : List Procedure) : Type 0 where
  pub no_fault : script_fault names text ≡ None
  pub lines : said (parsed_lines names text) ≡ script_lines script

-- each line of a script is one over the names of principals
abbrev pub IsOver : List (List ℕ) → List Procedure → Type 0
IsOver names script = All (IsLine names) (script_lines script)
