-- The literals of a script's statements are those of its lines, which each script keeps.
use Rattle.std.proofs.Common.{◌≡◌, refl, Bool, true, ◌&&◌, IsTrue, List, [], ◌∷◌}
use Rattle.std.specs.List.{list_all}
use Rattle.std.proofs.lemmas.Bool.{and_parts}
use Rattle.std.proofs.lemmas.List.Elements.{All-nil, All-cons}
use Rattle.lio_syntax_lines.specs.declared.line.Line.{Line}
use Rattle.lio_syntax_lines.specs.declared.line.Line.TheVariants as line
use Rattle.lio_syntax_lines.specs.declared.line.Operand.{Operand}
use Rattle.lio_syntax_lines.specs.Operands.{is_said}
use Rattle.lio_syntax_lines.specs.Line.{says_literals}
use Rattle.lio_syntax.specs.Statements.{Statement, Statements, Do, If, IfElse, While, Try, Nothing, Then, Procedure}
use Rattle.lio_syntax.specs.Lines.{statement_lines, block_lines, script_lines}
use Rattle.lio_calculus.specs.Sound.{says, statement_says, block_says}
use Rattle.lio_start.specs.Laws.{LiteralsAreSaid}

both : (a b : Bool) → a ≡ true → b ≡ true → (a && b) ≡ true
both a b e f = cc

-- the literals of all these lines are said
abbrev all_said : List Line → Bool
all_said lines = list_all says_literals lines

-- the first line, which has one operand, and those behind it
with-operand : (a : Operand) (rest : List Line) → ((is_said a && true) && all_said rest) ≡ true → (is_said a ≡ true) × (all_said rest ≡ true)
with-operand a rest e =
    let parts = and_parts (is_said a && true) (all_said rest) e in
    ((and_parts (is_said a) true parts.0).0, parts.1)

mutual
  unfolding statement_lines block_lines statement_says block_says

  statement-said : (statement : Statement) (rest : List Line) → all_said (statement_lines statement rest) ≡ true → (statement_says statement ≡ true) × (all_said rest ≡ true)
  statement-said (Do simple) rest e = and_parts (says simple) (all_said rest) e
  statement-said (If a block) rest e =
      let first = with-operand a (block_lines block (line.End ∷ rest)) e in
      let inside = block-said block (line.End ∷ rest) first.1 in
      (both (is_said a) (block_says block) first.0 inside.0, inside.1)
  statement-said (IfElse a block other) rest e =
      let first = with-operand a (block_lines block (line.Else ∷ block_lines other (line.End ∷ rest))) e in
      let inside = block-said block (line.Else ∷ block_lines other (line.End ∷ rest)) first.1 in
      let second = block-said other (line.End ∷ rest) inside.1 in
      (both (is_said a) (block_says block && block_says other) first.0 (both (block_says block) (block_says other) inside.0 second.0), second.1)
  statement-said (While a block) rest e =
      let first = with-operand a (block_lines block (line.End ∷ rest)) e in
      let inside = block-said block (line.End ∷ rest) first.1 in
      (both (is_said a) (block_says block) first.0 inside.0, inside.1)
  statement-said (Try block code payload handler) rest e =
      let inside = block-said block (line.Catch code payload ∷ block_lines handler (line.End ∷ rest)) e in
      let second = block-said handler (line.End ∷ rest) inside.1 in
      (both (block_says block) (block_says handler) inside.0 second.0, second.1)

  block-said : (block : Statements) (rest : List Line) → all_said (block_lines block rest) ≡ true → (block_says block ≡ true) × (all_said rest ≡ true)
  block-said Nothing rest e = (refl, e)
  block-said (Then statement block) rest e =
      let first = statement-said statement (block_lines block rest) e in
      let behind = block-said block rest first.1 in
      (both (statement_says statement) (block_says block) first.0 behind.0, behind.1)

pub literals_are_said : LiteralsAreSaid
unfolding script_lines
literals_are_said [] e = All-nil (λ (x : Procedure). IsTrue (block_says x.body))
literals_are_said (procedure ∷ script) e =
    let parts = block-said procedure.body (line.End ∷ script_lines script) e in
    All-cons (λ (x : Procedure). IsTrue (block_says x.body)) procedure script parts.0 (literals_are_said script parts.1)
