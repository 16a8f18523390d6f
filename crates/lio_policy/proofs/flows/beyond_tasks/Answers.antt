use Rattle.std.proofs.Common.{◌∙◌, List, ap, sym}
use Rattle.std.specs.List.{flat_map}
use Rattle.lio_clauses.specs.Without.{without}
use Rattle.lio_policy.specs.Powers.{power_in, task_powers}
use Rattle.lio_policy.specs.Flows.{clauses_of}
use Rattle.lio_policy.specs.declared.policy.Arg.{Arg}
use Rattle.lio_policy.proofs.FlowLemmas.{beyond-more, without-nothing}
use Rattle.lio_policy.proofs.flows.beyond_tasks.Goals as goal

pub loop-task-init : goal.loop-task-init
loop-task-init c = c.in_ok-left.ensures.ok ∙ sym (without-nothing c.args.formula.now)

pub loop-task-preserved : goal.loop-task-preserved
loop-task-preserved c =
    beyond-more task_powers c.args.formula.now c.loop-task.left c.in_ok-left-2.left c.args.tasks.now c.loop-task.task-index c.task-item.result c.loop-task-test.true c.task-item.is c.loop-task.invariant
    (c.in_ok-left-2.ensures ∙ ap (λ (args : List Arg). without c.loop-task.left (clauses_of (flat_map power_in args))) c.as_slice.ensures)
