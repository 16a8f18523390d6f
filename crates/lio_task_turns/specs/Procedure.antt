-- What the code's procedures stand for.
use Rattle.std.specs.Prelude.{◌≡◌, ℕ, List, Some, slice_get}
use Rattle.lio_syntax.specs.Statements.{Procedure}
use Rattle.lio_syntax.specs.Lines.{script_lines}
use Rattle.lio_syntax.specs.Beginnings.{number_of}
use Rattle.lio_task_control.specs.Continuation.{body_at}

-- the procedure of a script with a number has these parameters, and the line at this place begins it
pub record IsNumbered (script : List Procedure) (number : ℕ) (parameters : List (List ℕ)) (line : ℕ) : Type 0 where
  pub procedure : Procedure
  pub is : slice_get script number ≡ Some procedure
  pub parameters_are : parameters ≡ procedure.parameters
  pub body_is : body_at (script_lines script) line ≡ procedure.body

-- and is the first with a name
pub record IsNamed (script : List Procedure) (name : List ℕ) (number : ℕ) (parameters : List (List ℕ)) (line : ℕ) : Type 0 where
  pub found : number_of script name ≡ Some number
  pub numbered : IsNumbered script number parameters line
