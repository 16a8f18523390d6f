use Rattle.std.proofs.Common.{◌≡◌}
use Rattle.lio_runq.specs.Passes.{popped_of}
use Rattle.lio_workers.specs.Seated.{IsWorkerAt}
use Rattle.lio_workers.proofs.worker.push_woken.Given as goal

-- the worker has its seat, with all its tickets, and its pass, which has popped nothing more
abbrev pub invariant-loop-waiter : goal.invariant-loop-waiter
invariant-loop-waiter g l = record {
  worker : IsWorkerAt l.shared l.worker;
  popped : popped_of l.worker.pass.seat ≡ popped_of l.fn.worker.pass.seat;
}
