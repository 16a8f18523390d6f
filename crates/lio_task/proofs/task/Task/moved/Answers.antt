use Rattle.std.proofs.Common.{◌∙◌, ap}
use Rattle.lio_labels.specs.declared.label.Label.{Label}
use Rattle.lio_task_control.specs.Continuation.{place_of}
use Rattle.lio_calculus.specs.Going.{at}
use Rattle.lio_calculus.specs.Task.{TaskState}
use Rattle.lio_task.specs.StateOf.{state_of}
use Rattle.lio_task.proofs.task.Task.moved.Goals as goal

pub returns : goal.returns
returns c = λ lines.
    let was = at (state_of lines c.args.self.now) (place_of lines c.args.continuation) in
    ap (λ (l : Label). let state : TaskState = record was { label = l; clearance = c.in_ok-clearance.clearance } in state) c.in_ok-label.ensures.ok
    ∙ ap (λ (l : Label). let state : TaskState = record was { clearance = l } in state) c.in_ok-clearance.ensures.ok
