use Rattle.std.proofs.Common.{◌≡◌, ◌≤◌, length, drop}
use Rattle.lio_syntax.specs.Closing.{block_ends, ends_behind}
use Rattle.lio_syntax.proofs.ends.ends_of.Given as goal

-- the table is made from the place on, and the ends are those at the place
abbrev pub invariant-lines : goal.invariant-lines
invariant-lines l = record {
  ends : l.ends ≡ block_ends l.at (drop l.at l.lines);
  table : drop l.at l.table.items ≡ ends_behind l.at (drop l.at l.lines);
  same : length l.table.items ≡ length l.lines;
  within : l.at ≤ length l.lines;
}

abbrev pub decreases-lines : goal.decreases-lines
decreases-lines l = l.at
