-- The script of lines: what is behind each line, put together from the last line to the first.
use Rattle.std.specs.Prelude.{ℕ, List, [], ◌∷◌}
use Rattle.lio_syntax_lines.specs.declared.line.Operand.{Operand}
use Rattle.lio_syntax_lines.specs.declared.line.Line.{Line}
use Rattle.lio_syntax_lines.specs.declared.line.Line.TheVariants as line
use Rattle.lio_syntax.specs.Statements.{Statement, Statements, Do, If, IfElse, While, Try, Nothing, Then, Procedure}

-- What stands behind a place in a script.
pub data Behind : Type 0 where
  -- outside of a procedure: the procedures that follow
  Outside : List Procedure → Behind
  -- in a block that ends at `end`: its statements from here on, and what is behind its end
  Block : Statements → Behind → Behind
  -- in the first block of an `if` with an `else`, or of a `try`: its statements from here on, the other block, and what is behind its end
  First : Statements → Statements → Behind → Behind
  Tried : Statements → List ℕ → List ℕ → Statements → Behind → Behind

-- a statement in front
abbrev pub in_front : Statement → Behind → Behind
in_front statement (Outside procedures) = Outside procedures
in_front statement (Block block behind) = Block (Then statement block) behind
in_front statement (First block other behind) = First (Then statement block) other behind
in_front statement (Tried block x y handler behind) = Tried (Then statement block) x y handler behind

-- a line before what is behind it; a line that can't stand there changes nothing
abbrev pub before_if : Operand → Behind → Behind
before_if a (Block block behind) = in_front (If a block) behind
before_if a (First block other behind) = in_front (IfElse a block other) behind
before_if a behind = behind

abbrev pub before_while : Operand → Behind → Behind
before_while a (Block block behind) = in_front (While a block) behind
before_while a behind = behind

abbrev pub before_try : Behind → Behind
before_try (Tried block x y handler behind) = in_front (Try block x y handler) behind
before_try behind = behind

abbrev pub before_else : Behind → Behind
before_else (Block other behind) = First Nothing other behind
before_else behind = behind

abbrev pub before_catch : List ℕ → List ℕ → Behind → Behind
before_catch x y (Block handler behind) = Tried Nothing x y handler behind
before_catch x y behind = behind

abbrev pub before_proc : List ℕ → List (List ℕ) → Behind → Behind
before_proc name parameters (Block body (Outside procedures)) = Outside (record { name = name; parameters = parameters; body = body } ∷ procedures)
before_proc name parameters behind = behind

-- what stands behind the place before these lines
unfoldable pub behind : List Line → Behind
behind [] = Outside []
behind (line.Proc name parameters ∷ lines) = before_proc name parameters (behind lines)
behind (line.If a ∷ lines) = before_if a (behind lines)
behind (line.Else ∷ lines) = before_else (behind lines)
behind (line.While a ∷ lines) = before_while a (behind lines)
behind (line.Try ∷ lines) = before_try (behind lines)
behind (line.Catch x y ∷ lines) = before_catch x y (behind lines)
behind (line.End ∷ lines) = Block Nothing (behind lines)
behind (line.Do simple ∷ lines) = in_front (Do simple) (behind lines)

-- the procedures outside of which one stands
abbrev pub procedures : Behind → List Procedure
procedures (Outside all) = all
procedures (Block block behind) = []
procedures (First block other behind) = []
procedures (Tried block x y handler behind) = []

-- the script of these lines
abbrev pub script_of_lines : List Line → List Procedure
script_of_lines lines = procedures (behind lines)
