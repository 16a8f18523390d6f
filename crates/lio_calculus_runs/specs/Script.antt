-- Which principals a script names: those in its literals. Each of them has a name.
use Rattle.std.specs.Prelude.{ℕ, List, All}
use Rattle.lio_values.specs.PlainText.{IsPlainNamed}
use Rattle.lio_syntax_lines.specs.declared.line.Operand.{Operand}
use Rattle.lio_syntax_lines.specs.declared.line.Operand.TheVariants.{Name, Literal}
use Rattle.lio_syntax_lines.specs.declared.line.Simple.{Simple}
use Rattle.lio_syntax_lines.specs.Simple.{simple_operands}
use Rattle.lio_syntax.specs.Statements.{Statement, Statements, Do, If, IfElse, While, Try, Nothing, Then, Procedure}

-- each principal in a literal has a name; the name of a variable names none
abbrev pub IsOperandNamed : List (List ℕ) → Operand → Type 0
IsOperandNamed names (Name name) = Unit {0}
IsOperandNamed names (Literal plain) = IsPlainNamed names plain

-- each principal in the literals of a statement that opens no block has a name
abbrev pub IsSimpleNamed : List (List ℕ) → Simple → Type 0
IsSimpleNamed names simple = All (IsOperandNamed names) (simple_operands simple)

unfoldable mutual
  -- each principal in the literals of a statement has a name
  pub IsStatementNamed : List (List ℕ) → Statement → Type 0
  IsStatementNamed names (Do simple) = IsSimpleNamed names simple
  IsStatementNamed names (If a block) = IsOperandNamed names a × IsBlockNamed names block
  IsStatementNamed names (IfElse a block other) = IsOperandNamed names a × IsBlockNamed names block × IsBlockNamed names other
  IsStatementNamed names (While a block) = IsOperandNamed names a × IsBlockNamed names block
  IsStatementNamed names (Try block code payload handler) = IsBlockNamed names block × IsBlockNamed names handler

  -- each principal in the literals of a block has a name
  pub IsBlockNamed : List (List ℕ) → Statements → Type 0
  IsBlockNamed names Nothing = Unit {0}
  IsBlockNamed names (Then statement block) = IsStatementNamed names statement × IsBlockNamed names block

-- each principal in the literals of a script has a name
abbrev pub IsScriptNamed : List (List ℕ) → List Procedure → Type 0
IsScriptNamed names script = All (λ procedure. IsBlockNamed names procedure.body) script
