use Rattle.std.proofs.Common.{◌≤◌, ◌+◌}
use Rattle.lio_runq.specs.Passes.{IsPassOf, left_of}
use Rattle.lio_workers.proofs.run.fill.Given as goal

-- the pass has made a push at most for each number so far
abbrev pub invariant-loop-k : goal.invariant-loop-k
invariant-loop-k g l = record {
  pass : IsPassOf l.numbers.numbers l.pass.seat;
  left : left_of l.fn.pass.seat ≤ left_of l.pass.seat + l.k;
}
