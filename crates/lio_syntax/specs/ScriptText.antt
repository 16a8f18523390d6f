-- The canonical text of a script: each line with its line end, without indentation.
use Rattle.std.specs.Prelude.{ℕ, List, ◌++◌, codes}
use Rattle.std.specs.List.{flat_map}
use Rattle.lio_syntax_lines.specs.declared.line.Line.{Line}
use Rattle.lio_syntax_lines.specs.Line.{line_text}
use Rattle.lio_syntax.specs.Lines.{script_lines}
use Rattle.lio_syntax.specs.Statements.{Procedure}

-- lines, each with its line end
unfoldable pub lines_text : List (List ℕ) → List Line → List ℕ
lines_text names lines = flat_map (λ line. line_text names line ++ codes "\n") lines

-- a script
abbrev pub script_text : List (List ℕ) → List Procedure → List ℕ
script_text names script = lines_text names (script_lines script)
