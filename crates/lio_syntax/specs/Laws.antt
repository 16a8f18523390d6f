-- The laws of scripts.
use Rattle.std.specs.Prelude.{◌≡◌, ◌↔◌, ℕ, List, IsTrue}
use Rattle.lio_syntax_lines.specs.declared.line.Line.{Line}
use Rattle.lio_syntax.specs.Lines.{script_lines}
use Rattle.lio_syntax.specs.OpenBlocks.{are_placed}
use Rattle.lio_syntax.specs.Statements.{Procedure}
use Rattle.lio_syntax.specs.Verdict.{IsScript}

-- a text is that of one script
abbrev pub TextHasOneScript : Type 0
TextHasOneScript = (names : List (List ℕ)) (text : List ℕ) (one other : List Procedure) → IsScript names text one → IsScript names text other → one ≡ other

-- lines stand where they can, with nothing open behind them, exactly where they are the lines of a script
abbrev pub PlacedLinesAreOfScripts : Type 0
PlacedLinesAreOfScripts = (lines : List Line) → IsTrue (are_placed lines) ↔ ((script : List Procedure) × (script_lines script ≡ lines))
