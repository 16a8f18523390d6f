use Rattle.lio_task_turns.specs.StateOf.{state_of}
use Rattle.lio_task_plan.proofs.front.plan_next.Goals as goal

pub returns-clause-leads : goal.returns-clause-leads
returns-clause-leads c = λ lines is. c.plan_front.ensures.leads (state_of lines c.args.task.now).items is
