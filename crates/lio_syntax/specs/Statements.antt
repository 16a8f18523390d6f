-- Scripts: procedures, and statements with the blocks inside them.
use Rattle.std.specs.Prelude.{ℕ, List}
use Rattle.lio_syntax_lines.specs.declared.line.Operand.{Operand}
use Rattle.lio_syntax_lines.specs.declared.line.Simple.{Simple}

mutual
  -- A statement: one that opens no block, or one with its blocks.
  pub data Statement : Type 0 where
    Do : Simple → Statement
    If : Operand → Statements → Statement
    IfElse : Operand → Statements → Statements → Statement
    While : Operand → Statements → Statement
    Try : Statements → List ℕ → List ℕ → Statements → Statement

  -- The statements of a block, in order.
  pub data Statements : Type 0 where
    Nothing : Statements
    Then : Statement → Statements → Statements

-- a procedure: its name, the names of its parameters, and its statements
pub record Procedure : Type 0 where
  pub name : List ℕ
  pub parameters : List (List ℕ)
  pub body : Statements
