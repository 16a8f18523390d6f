use Rattle.std.proofs.Common.{◌≡◌, ◌-◌, ◌+◌, ◌*◌, ◌^◌, ◌≤◌, [], length}
use Rattle.lio_runq.specs.Passes.{IsPassOf, left_of}
use Rattle.lio_table.specs.Tables.{view_of}
use Rattle.lio_workers.specs.Seated.{AreWorkersAt, HasTheRest}
use Rattle.lio_workers.proofs.seats.workers.Given as goal

-- the workers so far have seats and passes, and the first seat has the rest of the tickets, of which none is drawn
abbrev pub invariant-loop-made : goal.invariant-loop-made
invariant-loop-made g l = record {
  workers : AreWorkersAt l.shared l.workers.items;
  rest : HasTheRest l.shared.table l.workers.items l.first;
  none_drawn : (view_of l.first).drawn ≡ [];
  pass : IsPassOf l.shared.numbers.numbers l.pass.seat;
  pushes : 2 ^ 60 ≤ left_of l.pass.seat + l.made * 2 ^ 40;
  many : length l.workers.items ≡ l.made;
}

abbrev pub decreases-loop-made : goal.decreases-loop-made
decreases-loop-made g l = l.count - l.made
