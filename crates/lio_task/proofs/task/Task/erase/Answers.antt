use Rattle.std.proofs.Common.{◌≡◌, ◌∙◌, ap, List}
use Rattle.std.proofs.lemmas.Result.{IfOk-weaker}
use Rattle.lio_syntax_lines.specs.declared.line.Line.{Line}
use Rattle.lio_syntax.specs.Statements.{Procedure}
use Rattle.lio_syntax.specs.Lines.{script_lines}
use Rattle.lio_task_control.specs.Continuation.{place_of}
use Rattle.lio_syntax.specs.Hiding.{hide_place}
use Rattle.lio_calculus.specs.Going.{at}
use Rattle.lio_calculus.specs.Hiding.{hide_task}
use Rattle.lio_task.specs.declared.task.Task.{Task}
use Rattle.lio_task.specs.StateOf.{state_in, state_of}
use Rattle.lio_task.proofs.task.Task.erase.Goals as goal

pub returns : goal.returns
unfolding hide_place
returns c =
    let was = c.args.self.now in
    let stands = c.in_ok-continuation.continuation in
    IfOk-weaker c.moved.result (λ (task : Task). (lines : List Line) → state_of lines task ≡ at (state_of lines was) (place_of lines stands))
    (λ (task : Task). (script : List Procedure) → state_in script task ≡ hide_task c.args.observer.now (state_in script was))
    (λ task moves script. moves (script_lines script) ∙ ap (at (state_of (script_lines script) was)) (c.in_ok-continuation.ensures (script_lines script))) c.moved.ensures
