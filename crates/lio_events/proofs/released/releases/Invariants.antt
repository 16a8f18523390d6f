use Rattle.std.proofs.Common.{◌≡◌, ◌++◌, drop}
use Rattle.lio_events.specs.Views as spec
use Rattle.lio_events.proofs.released.releases.Given as goal

-- the contents so far, with those that are left, are all
abbrev pub invariant-loop-entry : goal.invariant-loop-entry
invariant-loop-entry l = l.contents ++ spec.releases l.observer (drop l.entry-index l.entry-items) ≡ spec.releases l.observer l.entry-items
