use Rattle.std.proofs.Common.{◌≡◌, ◌≢◌, ℕ, ◌<◌, ◌≤◌, length, take, get_or}
use Rattle.lio_rounds.specs.Awake.{IsAsleep}
use Rattle.lio_rounds.proofs.awake.wake_all.Given as goal

-- the places behind those that are left are awake
abbrev pub invariant-loop-place : goal.invariant-loop-place
invariant-loop-place l = record {
  items : l.list.items ≡ take (length l.list.items) l.fn.list.items;
  few : length l.list.items ≤ length l.fn.list.items;
  awake : (place : ℕ) → IsAsleep l.places place
      → IsAsleep l.fn.places place × ((i : ℕ) → length l.list.items ≤ i → i < length l.fn.list.items → get_or l.fn.list.items i 0 ≢ place);
}

abbrev pub decreases-loop-place : goal.decreases-loop-place
decreases-loop-place l = length l.list.items
