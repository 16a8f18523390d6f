use Rattle.std.proofs.Common.{◌∙◌, sym, arith}
use Rattle.lio_start.proofs.FitsLemmas.{first_fault-here, first_fault-next, first_fault-end}
use Rattle.lio_start.proofs.fitting.first_fault.Goals as goal

pub returns-in-Some : goal.returns-in-Some
returns-in-Some c =
    sym (first_fault-here c.args.script.now c.args.tasks.now c.loop-task.task-index c.loop-task.place c.task-item.result c.in-Some.fault c.loop-task-test.true c.task-item.is
    (sym c.fault_of.ensures ∙ c.in-Some.is)) ∙ c.loop-task.invariant.1

pub loop-task-preserved : goal.loop-task-preserved
loop-task-preserved c = (
  omega arith,
  sym (first_fault-next c.args.script.now c.args.tasks.now c.loop-task.task-index c.loop-task.place c.task-item.result c.loop-task-test.true c.task-item.is
      (sym c.fault_of.ensures ∙ c.in_default.is)) ∙ c.loop-task.invariant.1,
)

pub returns : goal.returns
returns c = sym (first_fault-end c.args.script.now c.args.tasks.now c.loop-task.task-index c.loop-task.place c.loop-task-test.false) ∙ c.loop-task.invariant.1
