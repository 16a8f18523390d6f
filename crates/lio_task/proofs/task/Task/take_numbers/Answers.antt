use Rattle.std.proofs.Common.{ℕ, ◌+◌, ◌-◌, ap, arith}
use Rattle.lio_calculus.specs.Task.{TaskState}
use Rattle.lio_task.specs.StateOf.{state_of}
use Rattle.lio_task.proofs.task.Task.take_numbers.Goals as goal

pub returns : goal.returns
returns c = λ lines.
    ap (λ (n : ℕ). let state : TaskState = record (state_of lines c.args.self.now) { first = n; cells = c.args.self.now.cells - (1 + c.args.count) } in state) (omega arith)
