-- The rules of scripts, over all lines of a text: which of them a line breaks.
use Rattle.std.specs.Prelude.{ℕ, suc, ◌==◌, ◌&&◌, ◌||◌, not, Bool, true, false, nat_le, if◌then◌else◌, List, [], ◌∷◌, length, bytes_eq, Option, Some, None, is_some, is_none}
use Rattle.std.specs.List.{list_any}
use Rattle.lio_syntax_lines.specs.declared.line.Line.{Line}
use Rattle.lio_syntax_lines.specs.declared.line.Line.TheVariants as line
use Rattle.lio_syntax_lines.specs.declared.line.ParsedLine.{ParsedLine}
use Rattle.lio_syntax_lines.specs.declared.line.ParsedLine.TheVariants.{Blank, Invalid, Says}
use Rattle.lio_syntax_lines.specs.Header.{Signature, header_of, parsed_header, line_call}
use Rattle.lio_syntax.specs.OpenBlocks.{is_misplaced, open_behind, block_count}

-- the number of parameters, where the signature has the name
abbrev pub count_if_named : List ℕ → Option Signature → Option ℕ
count_if_named name None = None
count_if_named name (Some signature) = if bytes_eq name signature.name then Some signature.count else None

-- the first of two that is there
abbrev pub or_else : {X : Type 0} → Option X → Option X → Option X
or_else (Some x) other = Some x
or_else None other = other

-- how many parameters the procedure with this name has, by the first of the lines that begins one with this name
unfoldable pub parameters_of : List ParsedLine → List ℕ → Option ℕ
parameters_of [] name = None
parameters_of (line ∷ lines) name = or_else (count_if_named name (parsed_header line)) (parameters_of lines name)

-- how many lines begin a procedure
unfoldable pub procedure_count : List ParsedLine → ℕ
procedure_count [] = 0
procedure_count (line ∷ lines) = if is_some (parsed_header line) then suc (procedure_count lines) else procedure_count lines

-- whether a name is there twice
unfoldable pub has_twice : List (List ℕ) → Bool
has_twice [] = false
has_twice (name ∷ names) = list_any (bytes_eq name) names || has_twice names

-- a call of a procedure that no line of the text begins
abbrev pub is_unknown : List ParsedLine → Option Signature → Bool
is_unknown all None = false
is_unknown all (Some call) = is_none (parameters_of all call.name)

-- a call with another number of arguments than the procedure has parameters
abbrev pub differs : Option ℕ → ℕ → Bool
differs None count = false
differs (Some parameters) count = not (parameters == count)

abbrev pub has_other_count : List ParsedLine → Option Signature → Bool
has_other_count all None = false
has_other_count all (Some call) = differs (parameters_of all call.name) call.count

-- a procedure with the name of an earlier one
abbrev pub is_again : List ParsedLine → Option Signature → Bool
is_again before None = false
is_again before (Some header) = is_some (parameters_of before header.name)

-- a procedure with a parameter twice
abbrev pub repeats_parameter : Line → Bool
repeats_parameter (line.Proc name parameters) = has_twice parameters
repeats_parameter (line.If a) = false
repeats_parameter line.Else = false
repeats_parameter (line.While a) = false
repeats_parameter line.Try = false
repeats_parameter (line.Catch x y) = false
repeats_parameter line.End = false
repeats_parameter (line.Do simple) = false

-- whether a line opens a block
abbrev pub opens_block : Line → Bool
opens_block (line.If a) = true
opens_block (line.While a) = true
opens_block line.Try = true
opens_block (line.Proc name parameters) = false
opens_block line.Else = false
opens_block (line.Catch x y) = false
opens_block line.End = false
opens_block (line.Do simple) = false

-- at most 8,192 lines
abbrev pub is_past_lines : List ParsedLine → Bool
is_past_lines before = nat_le 8192 (length before)

-- at most 8,192 lines, 512 procedures, and 64 blocks that are open in a procedure
abbrev pub is_past_limits : List ParsedLine → Line → Bool
is_past_limits before line =
    is_past_lines before || (is_some (header_of line) && nat_le 512 (procedure_count before)) || (opens_block line && nat_le 64 (block_count (open_behind before)))

-- the lowest of the rules on calls, on procedures and on limits that a line breaks, if there is one
abbrev pub broken_call : List ParsedLine → Option Signature → Option ℕ
broken_call all call = if is_unknown all call then Some 3 else (if has_other_count all call then Some 4 else None)

abbrev pub broken_header : List ParsedLine → Line → Option ℕ
broken_header before line = if is_again before (header_of line) then Some 5 else (if repeats_parameter line then Some 6 else None)

abbrev pub broken_limit : List ParsedLine → Line → Option ℕ
broken_limit before line = if is_past_limits before line then Some 7 else None

-- the lowest rule that a line breaks, if there is one
abbrev pub broken_by : List ParsedLine → List ParsedLine → Line → Option ℕ
broken_by all before line =
    if is_misplaced (open_behind before) line then Some 2
    else or_else (broken_call all (line_call line)) (or_else (broken_header before line) (broken_limit before line))

-- The same for a line of the text, among all of them and behind those before it. Rule 1: it is one of the forms. 2: it stands where it can.
-- 3: a line begins the procedure that it calls. 4: with as many parameters as it gives arguments. 5: it begins no procedure of an earlier
-- name. 6: its parameters differ. 7: it is within the limits.
abbrev pub broken_rule : List ParsedLine → List ParsedLine → ParsedLine → Option ℕ
broken_rule all before Blank = if is_past_lines before then Some 7 else None
broken_rule all before Invalid = Some 1
broken_rule all before (Says line) = broken_by all before line
