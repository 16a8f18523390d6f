-- The grammar of scripts: the lines of each statement and each procedure, before other lines.
use Rattle.std.specs.Prelude.{List, [], ◌∷◌}
use Rattle.lio_syntax_lines.specs.declared.line.Line.{Line}
use Rattle.lio_syntax_lines.specs.declared.line.Line.TheVariants as line
use Rattle.lio_syntax.specs.Statements.{Statement, Statements, Do, If, IfElse, While, Try, Nothing, Then, Procedure}

unfoldable mutual
  -- a statement
  pub statement_lines : Statement → List Line → List Line
  statement_lines (Do simple) rest = line.Do simple ∷ rest
  statement_lines (If a block) rest = line.If a ∷ block_lines block (line.End ∷ rest)
  statement_lines (IfElse a block other) rest = line.If a ∷ block_lines block (line.Else ∷ block_lines other (line.End ∷ rest))
  statement_lines (While a block) rest = line.While a ∷ block_lines block (line.End ∷ rest)
  statement_lines (Try block x y handler) rest = line.Try ∷ block_lines block (line.Catch x y ∷ block_lines handler (line.End ∷ rest))

  -- the statements of a block
  pub block_lines : Statements → List Line → List Line
  block_lines Nothing rest = rest
  block_lines (Then statement block) rest = statement_lines statement (block_lines block rest)

-- the lines of a script
unfoldable pub script_lines : List Procedure → List Line
script_lines [] = []
script_lines (procedure ∷ procedures) = line.Proc procedure.name procedure.parameters ∷ block_lines procedure.body (line.End ∷ script_lines procedures)
