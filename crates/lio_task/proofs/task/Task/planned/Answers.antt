use Rattle.std.proofs.Common.{◌∙◌, ap}
use Rattle.std.proofs.lemmas.Result.{IfOk-weaker}
use Rattle.lio_syntax.specs.Lines.{script_lines}
use Rattle.lio_calculus.specs.Task.{TaskState}
use Rattle.lio_task_plan.specs.Planned.{full_by}
use Rattle.lio_task_turns.specs.StateOf.{program_of}
use Rattle.lio_task.specs.StateOf.{state_in}
use Rattle.lio_task.proofs.task.Task.planned.Goals as goal

pub returns : goal.returns
returns c =
    let script = c.args.script.now in
    IfOk-weaker c.plan_full.result _ _
    (λ turn plans. plans (state_in script c.args.self.now).items c.requires ∙ ap (λ (s : TaskState). full_by (program_of script c.args.longest) s c.args.full) (c.standing.ensures (script_lines script)))
    c.plan_full.ensures
