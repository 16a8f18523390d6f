use Rattle.std.proofs.Common.{◌≡◌, ◌≤◌, length, take}
use Rattle.lio_syntax.specs.Lines.{script_lines}
use Rattle.lio_syntax.specs.Throwing.{thrown}
use Rattle.lio_task_control.specs.Continuation.{place_of}
use Rattle.lio_task_control.proofs.ContinuationLemmas.{above, below}
use Rattle.lio_task_control.proofs.continuation.Continuation.catch.Given as goal

-- the fault is caught neither in the frame nor in the calls from the place on
abbrev pub invariant-calls : goal.invariant-calls
invariant-calls l = record {
  within : l.count ≤ length l.self.calls.items;
  calls : l.self.calls.items ≡ l.fn.self.calls.items;
  frame : l.self.frame ≡ l.fn.self.frame;
  same : thrown l.fault (place_of (script_lines l.script) l.fn.self).environment (place_of (script_lines l.script) l.fn.self).items
      ≡ thrown l.fault (above l.self.calls.items l.self.frame l.count) (below (script_lines l.script) (take l.count l.self.calls.items));
}

abbrev pub decreases-calls : goal.decreases-calls
decreases-calls l = l.count
