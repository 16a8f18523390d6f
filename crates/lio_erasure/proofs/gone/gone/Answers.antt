use Rattle.std.proofs.Common.{◌∙◌, ap}
use Rattle.std.proofs.lemmas.Result.{IfOk-from_err, IfOk-weaker}
use Rattle.lio_calculus.specs.Task.{TaskState}
use Rattle.lio_calculus.specs.Hiding.{hide_task}
use Rattle.lio_task_turns.specs.StateOf.{program_of}
use Rattle.lio_task.specs.Next.{resumed}
use Rattle.lio_erasure.proofs.gone.gone.Goals as goal

pub returns-in_err-gone : goal.returns-in_err-gone
returns-in_err-gone c = IfOk-from_err c.from_residual.result _ c.from_residual.ensures.0

pub returns : goal.returns
returns c =
    let script = c.args.script.now in
    IfOk-weaker c.erase-erased.result _ _
    (λ task erased. erased script ∙ ap (hide_task c.args.observer.now)
    (c.in_default.ensures.ok ∙ ap (λ (t : TaskState). resumed (program_of script c.args.longest) t c.args.act.now c.args.reply.now) (c.in_ok-gone.ensures script))) c.erase-erased.ensures
