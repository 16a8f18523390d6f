use Rattle.std.proofs.Common.{◌≡◌, ◌-◌, ◌≤◌, length}
use Rattle.lio_rounds.specs.MachineParts.{machine_of}
use Rattle.lio_rounds.proofs.RoundLemmas.{WalkedTo}
use Rattle.lio_rounds.proofs.machine.Machine.round.Given as goal

-- the round so far: over the places before this one
abbrev pub invariant-loop-i : goal.invariant-loop-i
invariant-loop-i l = record {
  so_far : WalkedTo (machine_of l.fn.self) (machine_of l.self) l.i l.moved;
  few : l.moved ≤ l.i;
  all : l.count ≡ length l.fn.self.order;
}

abbrev pub decreases-loop-i : goal.decreases-loop-i
decreases-loop-i l = l.count - l.i
