use Rattle.std.proofs.Common.{length, ◌-◌, ◌≡◌, ◌≤◌, ℕ, drop}
use Rattle.lio_events.specs.Views.{view}
use Rattle.lio_async_rounds.proofs.seen.first_seen.Given as goal

-- none of the entries so far is seen
abbrev pub invariant-loop-entry : goal.invariant-loop-entry
invariant-loop-entry l = record {
  from : l.from ≤ l.place;
  most : l.place ≤ length l.entries;
  same : (ticket : ℕ) → view l.observer ticket (drop l.place l.entries) ≡ view l.observer ticket (drop l.from l.entries);
}

abbrev pub decreases-loop-entry : goal.decreases-loop-entry
decreases-loop-entry l = length l.entries - l.place
