use Rattle.std.proofs.Common.{◌≡◌, ◌++◌, drop}
use Rattle.lio_rounds.proofs.HolderTasks.{holders_from}
use Rattle.lio_rounds.proofs.machine.Machine.resumed.Given as goal

-- the tasks so far, and those of the holders that are left, are all tasks
abbrev pub invariant-loop-k : goal.invariant-loop-k
invariant-loop-k l = l.order.items ++ holders_from l.k (drop l.k l.holder-items) ≡ holders_from 0 l.holder-items
