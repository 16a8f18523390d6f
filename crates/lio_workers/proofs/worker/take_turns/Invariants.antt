use Rattle.lio_runq.specs.Passes.{popped_of}
use Rattle.lio_workers.specs.Looks.{IsLastOf}
use Rattle.lio_workers.specs.Seated.{IsWorkerAt}
use Rattle.lio_workers.proofs.worker.take_turns.Given as goal

-- the worker has its seat, with all its tickets, and its pass, and the task's number is still the last one that this has popped
abbrev pub invariant-loop : goal.invariant-loop
invariant-loop g l = record {
  worker : IsWorkerAt l.shared l.worker;
  popped : IsLastOf l.k (popped_of l.worker.pass.seat);
}
