use Rattle.std.proofs.Common.{subst, sym}
use Rattle.lio_syntax.specs.Lines.{script_lines}
use Rattle.lio_task_control.specs.Front.{IsFront}
use Rattle.lio_calculus.specs.Task.{TaskState}
use Rattle.lio_task_plan.specs.Leads.{LeadsOn}
use Rattle.lio_task_plan.specs.Planned.{IsPlanned}
use Rattle.lio_task_turns.specs.StateOf.{program_of}
use Rattle.lio_task.proofs.task.Task.plan.Goals as goal

pub returns-clause-plan : goal.returns-clause-plan
returns-clause-plan c = λ longest.
    let program = program_of c.args.script.now longest in let stands = c.standing.ensures (script_lines c.args.script.now) in
    subst (λ (s : TaskState). IsPlanned program s c.plan_next.result) stands
    (c.plan_next.ensures.plan program (subst (λ (s : TaskState). IsFront s.items c.front.result) (sym stands) c.front.ensures))

pub returns-clause-leads : goal.returns-clause-leads
returns-clause-leads c =
    let lines = script_lines c.args.script.now in let stands = c.standing.ensures lines in
    subst (λ (s : TaskState). LeadsOn s.items c.plan_next.result) stands
    (c.plan_next.ensures.leads lines (subst (λ (s : TaskState). IsFront s.items c.front.result) (sym stands) c.front.ensures))
