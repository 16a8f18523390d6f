use Rattle.std.proofs.Common.{arith}
use Rattle.lio_start.proofs.MakingLemmas.{cells-next, cells-end}
use Rattle.lio_start.proofs.holders.cells_in_all.Goals as goal

pub overflow_add-cells : goal.overflow_add-cells
overflow_add-cells c = omega (arith, c.requires, c.loop-task.invariant, cells-next c.args.tasks.now c.loop-task.task-index c.task-item.result c.loop-task-test.true c.task-item.is)

pub loop-task-preserved : goal.loop-task-preserved
loop-task-preserved c = omega (arith, c.loop-task.invariant, cells-next c.args.tasks.now c.loop-task.task-index c.task-item.result c.loop-task-test.true c.task-item.is)

pub returns : goal.returns
returns c = omega (arith, c.loop-task.invariant, cells-end c.args.tasks.now c.loop-task.task-index c.loop-task-test.false)
