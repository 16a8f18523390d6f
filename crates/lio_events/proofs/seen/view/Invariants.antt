use Rattle.std.proofs.Common.{◌≡◌, ◌++◌, drop, length}
use Rattle.lio_events.specs.Views as spec
use Rattle.lio_events.specs.Tickets.{AreBelow}
use Rattle.lio_events.proofs.seen.view.Given as goal

-- the view so far, with what is left, is the whole view; its tickets are below the next one
abbrev pub invariant-loop-entry : goal.invariant-loop-entry
invariant-loop-entry l = record {
  whole : l.view ++ spec.view l.observer (length l.view) (drop l.entry-index l.entry-items) ≡ spec.view l.observer 0 l.entry-items;
  below : AreBelow (length l.view) l.view;
}
