-- Which calls fit a script: a call, a fork or a spawn names a procedure of the script, and gives it as many arguments as it has parameters. Statements, blocks and what a task still has to do
-- fit where each call in them does (the statements are those of LIO, ICFP 2012; procedures are this calculus's own).
use Rattle.std.specs.Prelude.{◌≡◌, ℕ, List, length, All, Option, Some, None, slice_get}
use Rattle.lio_syntax_lines.specs.declared.line.Simple.{Simple}
use Rattle.lio_syntax_lines.specs.Header.{Signature, call_of}
use Rattle.lio_syntax.specs.Statements.{Statement, Statements, Do, If, IfElse, While, Try, Nothing, Then, Procedure}
use Rattle.lio_syntax.specs.Beginnings.{number_of}
use Rattle.lio_syntax.specs.Items as item
use Rattle.lio_syntax.specs.Items.{Item, Access, Mark, Back, Fail}
use Rattle.lio_calculus.specs.Task.{TaskState}
use Rattle.lio_calculus.specs.Step.{Configuration}
use Rattle.lio_calculus.specs.Sound.{IsTaskOf}

-- a call fits: the first procedure with its name is there, and has as many parameters as the call has arguments
pub record CallFits (script : List Procedure) (call : Signature) : Type 0 where
  pub place : ℕ
  pub procedure : Procedure
  pub number : number_of script call.name ≡ Some place
  pub is : slice_get script place ≡ Some procedure
  pub arity : length procedure.parameters ≡ call.count

-- a call fits, if there is one
abbrev pub AnyFits : List Procedure → Option Signature → Type 0
AnyFits script None = Unit {0}
AnyFits script (Some call) = CallFits script call

-- a statement that opens no block fits, by what it calls, forks or spawns
abbrev pub SimpleFits : List Procedure → Simple → Type 0
SimpleFits script simple = AnyFits script (call_of simple)

unfoldable mutual
  -- each call in a statement fits
  pub StatementFits : List Procedure → Statement → Type 0
  StatementFits script (Do simple) = SimpleFits script simple
  StatementFits script (If a block) = BlockFits script block
  StatementFits script (IfElse a block other) = BlockFits script block × BlockFits script other
  StatementFits script (While a block) = BlockFits script block
  StatementFits script (Try block code payload handler) = BlockFits script block × BlockFits script handler

  -- each call in a block fits
  pub BlockFits : List Procedure → Statements → Type 0
  BlockFits script Nothing = Unit {0}
  BlockFits script (Then statement block) = StatementFits script statement × BlockFits script block

-- each call in an item fits
abbrev pub ItemFits : List Procedure → Item → Type 0
ItemFits script (item.Do statement) = StatementFits script statement
ItemFits script (Access simple) = SimpleFits script simple
ItemFits script (Mark code payload handler) = BlockFits script handler
ItemFits script (Back caller name) = Unit {0}
ItemFits script (Fail fault) = Unit {0}

-- each call in the bodies of a script fits the script
abbrev pub ScriptFits : List Procedure → Type 0
ScriptFits script = All (λ procedure. BlockFits script procedure.body) script

-- Each call of a configuration fits its program: those in what its tasks still have to do, and those in the program.
pub record CallsFit (c : Configuration) : Type 0 where
  pub items : (k : ℕ) (task : TaskState) → IsTaskOf c k task → All (ItemFits c.program.procedures) task.items
  pub program : ScriptFits c.program.procedures
