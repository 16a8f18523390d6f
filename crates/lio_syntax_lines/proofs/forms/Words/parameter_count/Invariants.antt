use Rattle.std.proofs.Common.{◌≡◌, ◌≤◌, length}
use Rattle.lio_syntax_lines.specs.Forms as spec
use Rattle.lio_syntax_lines.specs.Limited.{limited}
use Rattle.lio_syntax_lines.proofs.forms.Words.parameter_count.Given as goal

-- the count so far, with the names that are left
abbrev pub invariant-words : goal.invariant-words
invariant-words l = record {
  so_far : limited 0 (spec.names_of l.fn.self) ≡ limited l.count (spec.names_of l.self);
  few : l.count ≤ 8;
}

abbrev pub decreases-words : goal.decreases-words
decreases-words l = length l.self
