use Rattle.std.proofs.Common.{◌≡◌}
use Rattle.lio_syntax.specs.Places.{blocks_at, places_to}
use Rattle.lio_syntax.proofs.places.places_of.Given as goal

-- the lines so far have their places, and the blocks are those that are open before the line at the place
abbrev pub invariant-loop-at : goal.invariant-loop-at
invariant-loop-at l = record {
  blocks : l.blocks ≡ blocks_at l.fn.lines l.at;
  table : l.table.items ≡ places_to l.fn.lines l.at;
}
