use Rattle.std.proofs.Common.{ℕ, ◌-◌, ◌+◌, ◌^◌, ◌<◌, ◌≤◌}
use Rattle.lio_rounds.specs.Words.{IsClear}
use Rattle.lio_rounds.proofs.places.first_set.Given as goal

abbrev pub invariant-loop-bit : goal.invariant-loop-bit
invariant-loop-bit l = record {
  from : l.from ≤ l.bit;
  few : l.bit ≤ 2 ^ 31 + 64;
  clear : (i : ℕ) → l.from ≤ i → i < l.bit → IsClear l.words i;
}

abbrev pub decreases-loop-bit : goal.decreases-loop-bit
decreases-loop-bit l = l.end - l.bit
