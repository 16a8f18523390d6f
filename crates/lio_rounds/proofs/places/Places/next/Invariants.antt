use Rattle.std.proofs.Common.{ℕ, ◌-◌, ◌<◌, ◌≤◌}
use Rattle.lio_rounds.specs.Awake.{IsAsleep}
use Rattle.lio_rounds.proofs.places.Places.next.Given as goal

abbrev pub invariant-loop-place : goal.invariant-loop-place
invariant-loop-place l = record {
  from : l.from ≤ l.place;
  asleep : (i : ℕ) → l.from ≤ i → i < l.place → IsAsleep l.self i;
}

abbrev pub decreases-loop-place : goal.decreases-loop-place
decreases-loop-place l = l.end - l.place
