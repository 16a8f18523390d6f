use Rattle.lio_syntax.specs.Lines.{script_lines}
use Rattle.lio_task_control.specs.Continuation.{place_of}
use Rattle.lio_task.proofs.BirthLemmas.{child_with}
use Rattle.lio_task.proofs.task.Task.of_birth.Goals as goal

pub returns : goal.returns
returns c = λ longest.
    child_with c.args.script.now longest c.args.at.now c.in_ok-label.label c.in_ok-clearance.clearance c.args.birth.now c.numbered-procedure.result.number c.numbered-procedure.result.parameters.now c.numbered-procedure.result.line
    c.in_ok-environment.environment (place_of (script_lines c.args.script.now) c.of_body-continuation.result)
    c.numbered-procedure.ensures.number c.numbered-procedure.ensures.procedure c.in_ok-environment.ensures c.of_body-continuation.ensures c.in_ok-label.ensures.ok c.in_ok-clearance.ensures.ok
