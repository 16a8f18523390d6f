-- Where the procedures of a script begin.
use Rattle.std.specs.Prelude.{◌≡◌, ℕ, suc, List, [], ◌∷◌, ◌++◌, drop, bytes_eq, Option, Some, None, slice_get}
use Rattle.std.specs.List.{position_from}
use Rattle.lio_syntax_lines.specs.declared.line.Line.{Line}
use Rattle.lio_syntax_lines.specs.declared.line.Line.TheVariants as line
use Rattle.lio_syntax_lines.specs.Header.{Signature, header_of}
use Rattle.lio_syntax.specs.Statements.{Procedure}
use Rattle.lio_syntax.specs.Lines.{script_lines}
use Rattle.lio_syntax.specs.Behind.{Outside, Block, behind}

-- a procedure that begins at a line: its name, and the place of the line
pub record Beginning : Type 0 where
  pub name : List ℕ
  pub at : ℕ

-- the one that the line at a place begins, if it begins one
abbrev pub begun_by : ℕ → Option Signature → List Beginning
begun_by at None = []
begun_by at (Some header) = record { name = header.name; at = at } ∷ []

-- those that lines begin, of which the first stands at a place
unfoldable pub beginnings : ℕ → List Line → List Beginning
beginnings at [] = []
beginnings at (line ∷ lines) = begun_by at (header_of line) ++ beginnings (suc at) lines

-- the number of the first with a name
abbrev pub number_in : List Beginning → List ℕ → Option ℕ
number_in begun name = position_from (λ beginning. bytes_eq name beginning.name) 0 begun

-- the number of the first procedure of a script with a name
abbrev pub number_of : List Procedure → List ℕ → Option ℕ
number_of script name = position_from (λ procedure. bytes_eq name procedure.name) 0 script

-- the procedure with a number begins at a line, and behind the line stands its body
pub record BeginsAt (script : List Procedure) (number at : ℕ) : Type 0 where
  pub procedure : Procedure
  pub others : List Procedure
  pub is : slice_get script number ≡ Some procedure
  pub begins : slice_get (script_lines script) at ≡ Some (line.Proc procedure.name procedure.parameters)
  pub body : behind (drop (suc at) (script_lines script)) ≡ Block procedure.body (Outside others)
