-- The procedure with a number, from the line that begins it.
use Rattle.std.proofs.Common.{◌≡◌, ◌∙◌, sym, ap, ℕ, ◌+◌, List, drop, Some, add-one}
use Rattle.std.specs.Prelude.{slice_get, Option}
use Rattle.lio_syntax_lines.specs.declared.line.Line.{Line}
use Rattle.lio_syntax_lines.specs.declared.line.Line.TheVariants as line
use Rattle.lio_syntax.specs.Statements.{Procedure}
use Rattle.lio_syntax.specs.Lines.{script_lines}
use Rattle.lio_syntax.specs.Behind.{behind}
use Rattle.lio_syntax.specs.Beginnings.{BeginsAt}
use Rattle.lio_task_control.specs.Continuation.{block_of, block_at, body_by, body_at}
use Rattle.lio_task_turns.specs.Procedure.{IsNumbered}

pub numbered_is : (script : List Procedure) (number at : ℕ) (name : List ℕ) (parameters : List (List ℕ)) → BeginsAt script number at → slice_get (script_lines script) at ≡ Some (line.Proc name parameters) → IsNumbered script number parameters at
unfolding body_at block_at
numbered_is script number at name parameters begins found =
    let said : Some (line.Proc name parameters) ≡ Some (line.Proc begins.procedure.name begins.procedure.parameters) = sym found ∙ begins.begins in
    record {
      procedure = begins.procedure;
      is = begins.is;
      parameters_are = cc;
      body_is = ap (λ (o : Option Line). body_by o (block_at (script_lines script) (at + 1))) found
          ∙ ap (λ (n : ℕ). block_of (behind (drop n (script_lines script)))) (add-one at) ∙ ap block_of begins.body;
    }
