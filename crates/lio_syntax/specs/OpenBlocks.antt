-- The blocks and the procedure that are open at a place in a script, the innermost first, and which line may stand there.
use Rattle.std.specs.Prelude.{ℕ, ◌-◌, Bool, true, false, not, ◌&&◌, List, [], ◌∷◌, drop, length}
use Rattle.lio_syntax_lines.specs.declared.line.Line.{Line}
use Rattle.lio_syntax_lines.specs.declared.line.Line.TheVariants as line
use Rattle.lio_syntax_lines.specs.declared.line.ParsedLine.{ParsedLine}
use Rattle.lio_syntax_lines.specs.declared.line.ParsedLine.TheVariants.{Blank, Invalid, Says}
use Rattle.lio_syntax.specs.declared.open_block.OpenBlock.{OpenBlock}
use Rattle.lio_syntax.specs.declared.open_block.OpenBlock.TheVariants.{Procedure, If, Else, While, Try, Catch}

-- an `if` that has no `else` yet
abbrev pub is_if : OpenBlock → Bool
is_if If = true
is_if Procedure = false
is_if Else = false
is_if While = false
is_if Try = false
is_if Catch = false

-- a `try` that has no `catch` yet
abbrev pub is_try : OpenBlock → Bool
is_try Try = true
is_try Procedure = false
is_try If = false
is_try Else = false
is_try While = false
is_try Catch = false

-- whether a line can't stand where this is the innermost that is open
abbrev pub misplaced_in : OpenBlock → Line → Bool
misplaced_in innermost (line.Proc name parameters) = true
misplaced_in innermost line.Else = not (is_if innermost)
misplaced_in innermost (line.Catch x y) = not (is_try innermost)
misplaced_in innermost line.End = is_try innermost
misplaced_in innermost (line.If a) = false
misplaced_in innermost (line.While a) = false
misplaced_in innermost line.Try = false
misplaced_in innermost (line.Do simple) = false

-- outside of a procedure only a procedure's first line can stand
abbrev pub misplaced_outside : Line → Bool
misplaced_outside (line.Proc name parameters) = false
misplaced_outside (line.If a) = true
misplaced_outside line.Else = true
misplaced_outside (line.While a) = true
misplaced_outside line.Try = true
misplaced_outside (line.Catch x y) = true
misplaced_outside line.End = true
misplaced_outside (line.Do simple) = true

-- whether a line can't stand where these are open
abbrev pub is_misplaced : List OpenBlock → Line → Bool
is_misplaced [] line = misplaced_outside line
is_misplaced (innermost ∷ outer) line = misplaced_in innermost line

-- what is open behind a line
abbrev pub opened_by : List OpenBlock → Line → List OpenBlock
opened_by blocks (line.Proc name parameters) = Procedure ∷ blocks
opened_by blocks (line.If a) = If ∷ blocks
opened_by blocks line.Else = Else ∷ drop 1 blocks
opened_by blocks (line.While a) = While ∷ blocks
opened_by blocks line.Try = Try ∷ blocks
opened_by blocks (line.Catch x y) = Catch ∷ drop 1 blocks
opened_by blocks line.End = drop 1 blocks
opened_by blocks (line.Do simple) = blocks

-- the same for a line that may say nothing
abbrev pub opened_behind : List OpenBlock → ParsedLine → List OpenBlock
opened_behind blocks Blank = blocks
opened_behind blocks Invalid = blocks
opened_behind blocks (Says line) = opened_by blocks line

-- what is open behind lines, before which these are open
unfoldable pub open_from : List OpenBlock → List ParsedLine → List OpenBlock
open_from blocks [] = blocks
open_from blocks (line ∷ lines) = open_from (opened_behind blocks line) lines

-- what is open behind the first lines of a text
abbrev pub open_behind : List ParsedLine → List OpenBlock
open_behind lines = open_from [] lines

-- how many blocks are open in a procedure
abbrev pub block_count : List OpenBlock → ℕ
block_count blocks = length blocks - 1

-- whether lines stand where they can, before which these are open, and nothing is open in the end
unfoldable pub accepts : List OpenBlock → List Line → Bool
accepts [] [] = true
accepts (innermost ∷ outer) [] = false
accepts blocks (l ∷ lines) = not (is_misplaced blocks l) && accepts (opened_by blocks l) lines

abbrev pub are_placed : List Line → Bool
are_placed lines = accepts [] lines
