use Rattle.std.proofs.Common.{◌∙◌, ap}
use Rattle.lio_values.specs.declared.act.Act.TheVariants as act
use Rattle.lio_syntax.specs.Lines.{script_lines}
use Rattle.lio_calculus.specs.Task.{TaskState}
use Rattle.lio_task_plan.specs.Planned.{content_by}
use Rattle.lio_task.proofs.task.Task.last_act.Goals as goal

pub returns : goal.returns
returns c =
    ap act.Ended (c.in_ok-new.ensures ∙ c.in_ok-content.ensures ∙ ap (λ (s : TaskState). content_by s s.items c.args.ending) (c.standing.ensures (script_lines c.args.script.now)))
