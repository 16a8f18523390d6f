-- Each principal in the literals of a script has a name where each line of the script is one over the names.
use Rattle.std.proofs.Common.{ℕ, List, [], ◌∷◌, All}
use Rattle.std.proofs.lemmas.List.Elements.{All-nil, All-head, All-tail, All-cons}
use Rattle.lio_values.specs.declared.value.Plain.{Plain}
use Rattle.lio_values.specs.declared.value.Plain.TheVariants.{Unit as unit, Flag, Whole, Bytes, Lab, Power, RefOf, VarOf, ResultOf, ChanOf, Items}
use Rattle.lio_values.specs.Forest as forest
use Rattle.lio_values.specs.PlainText.{IsPlainNamed}
use Rattle.lio_syntax_lines.specs.Literals.{IsLiteral}
use Rattle.lio_syntax_lines.specs.Operands.{IsOperand}
use Rattle.lio_syntax_lines.specs.Simple.{IsSimple, simple_operands}
use Rattle.lio_syntax_lines.specs.Line.{IsLine}
use Rattle.lio_syntax_lines.specs.declared.line.Operand.{Operand}
use Rattle.lio_syntax_lines.specs.declared.line.Operand.TheVariants.{Name, Literal}
use Rattle.lio_syntax_lines.specs.declared.line.Simple.{Simple}
use Rattle.lio_syntax_lines.specs.declared.line.Line.{Line}
use Rattle.lio_syntax_lines.specs.declared.line.Line.TheVariants as line
use Rattle.lio_syntax.specs.Statements.{Statement, Statements, Do, If, IfElse, While, Try, Nothing, Then, Procedure}
use Rattle.lio_syntax.specs.Lines.{statement_lines, block_lines, script_lines}
use Rattle.lio_syntax.specs.Verdict.{IsOver}
use Rattle.lio_syntax_lines.proofs.SimpleLemmas.{operands_made}
use Rattle.lio_calculus_runs.specs.Script.{IsOperandNamed, IsSimpleNamed, IsStatementNamed, IsBlockNamed, IsScriptNamed}

-- a literal, and an operand
literal_named : (names : List (List ℕ)) (plain : Plain) → IsLiteral names plain → IsPlainNamed names plain
literal_named names (Lab label) is = is.0
literal_named names unit is = tt
literal_named names (Flag flag) is = tt
literal_named names (Whole number) is = tt
literal_named names (Bytes text) is = tt
literal_named names (Power privilege) is = absurd is
literal_named names (RefOf handle) is = absurd is
literal_named names (VarOf handle) is = absurd is
literal_named names (ResultOf handle) is = absurd is
literal_named names (ChanOf handle) is = absurd is
literal_named names (Items forest.Nothing) is = tt
literal_named names (Items (forest.Then item items)) is = absurd is

operand_named : (names : List (List ℕ)) (operand : Operand) → IsOperand names operand → IsOperandNamed names operand
operand_named names (Name name) is = tt
operand_named names (Literal plain) is = literal_named names plain is

-- an operand before others
before : (names : List (List ℕ)) (a : Operand) (operands : List Operand) → IsOperand names a → All (IsOperandNamed names) operands → All (IsOperandNamed names) (a ∷ operands)
before names a operands is all = All-cons (IsOperandNamed names) a operands (operand_named names a is) all

operands_named : (names : List (List ℕ)) (operands : List Operand) → All (IsOperand names) operands → All (IsOperandNamed names) operands
operands_named names [] are = All-nil (IsOperandNamed names)
operands_named names (a ∷ operands) are = before names a operands (All-head (IsOperand names) a operands are) (operands_named names operands (All-tail (IsOperand names) a operands are))

-- a statement that opens no block
simple_over : (names : List (List ℕ)) (s : Simple) → IsSimple names s → IsSimpleNamed names s
simple_over names s is = operands_named names (simple_operands s) (operands_made names s is)

-- the lines behind a first one
behind : (names : List (List ℕ)) (first : Line) (rest : List Line) → All (IsLine names) (first ∷ rest) → All (IsLine names) rest
behind names = All-tail (IsLine names)

mutual
  unfolding statement_lines block_lines IsStatementNamed IsBlockNamed

  statement_over : (names : List (List ℕ)) (statement : Statement) (rest : List Line) → All (IsLine names) (statement_lines statement rest) → IsStatementNamed names statement × All (IsLine names) rest
  statement_over names (Do s) rest e = (simple_over names s (All-head (IsLine names) (line.Do s) rest e), behind names (line.Do s) rest e)
  statement_over names (If a block) rest e =
      let lines : List Line = block_lines block (line.End ∷ rest) in
      let inside = block_over names block (line.End ∷ rest) (behind names (line.If a) lines e) in
      ((operand_named names a (All-head (IsLine names) (line.If a) lines e), inside.0), behind names line.End rest inside.1)
  statement_over names (IfElse a block other) rest e =
      let later : List Line = block_lines other (line.End ∷ rest) in
      let lines : List Line = block_lines block (line.Else ∷ later) in
      let inside = block_over names block (line.Else ∷ later) (behind names (line.If a) lines e) in
      let second = block_over names other (line.End ∷ rest) (behind names line.Else later inside.1) in
      ((operand_named names a (All-head (IsLine names) (line.If a) lines e), inside.0, second.0), behind names line.End rest second.1)
  statement_over names (While a block) rest e =
      let lines : List Line = block_lines block (line.End ∷ rest) in
      let inside = block_over names block (line.End ∷ rest) (behind names (line.While a) lines e) in
      ((operand_named names a (All-head (IsLine names) (line.While a) lines e), inside.0), behind names line.End rest inside.1)
  statement_over names (Try block code payload handler) rest e =
      let later : List Line = block_lines handler (line.End ∷ rest) in
      let lines : List Line = block_lines block (line.Catch code payload ∷ later) in
      let inside = block_over names block (line.Catch code payload ∷ later) (behind names line.Try lines e) in
      let second = block_over names handler (line.End ∷ rest) (behind names (line.Catch code payload) later inside.1) in
      ((inside.0, second.0), behind names line.End rest second.1)

  block_over : (names : List (List ℕ)) (block : Statements) (rest : List Line) → All (IsLine names) (block_lines block rest) → IsBlockNamed names block × All (IsLine names) rest
  block_over names Nothing rest e = (tt, e)
  block_over names (Then statement block) rest e =
      let first = statement_over names statement (block_lines block rest) e in
      let later = block_over names block rest first.1 in
      ((first.0, later.0), later.1)

-- a script
pub script_named : (names : List (List ℕ)) (script : List Procedure) → IsOver names script → IsScriptNamed names script
unfolding script_lines
script_named names [] e = All-nil (λ (x : Procedure). IsBlockNamed names x.body)
script_named names (procedure ∷ script) e =
    let lines : List Line = block_lines procedure.body (line.End ∷ script_lines script) in
    let inside = block_over names procedure.body (line.End ∷ script_lines script) (behind names (line.Proc procedure.name procedure.parameters) lines e) in
    All-cons (λ (x : Procedure). IsBlockNamed names x.body) procedure script inside.0 (script_named names script (behind names line.End (script_lines script) inside.1))
