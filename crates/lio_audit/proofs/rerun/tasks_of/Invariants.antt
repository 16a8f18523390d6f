use Rattle.lio_audit.proofs.AskLemmas.{ListsTasks}
use Rattle.lio_audit.proofs.rerun.tasks_of.Given as goal

-- the tasks so far, and those of the cells that are left, are all tasks
abbrev pub invariant-loop-k : goal.invariant-loop-k
invariant-loop-k l = ListsTasks l.order.items l.cell-items l.k
