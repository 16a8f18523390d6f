use Rattle.std.proofs.Common.{◌≡◌, ℕ, ◌-◌, ◌<◌, ◌≤◌, length, slice_index_or}
use Rattle.lio_rounds.specs.Words.{IsClear}
use Rattle.lio_rounds.proofs.places.grow.Given as goal

abbrev pub invariant-loop-words : goal.invariant-loop-words
invariant-loop-words l = record {
  longer : length l.fn.words.items ≤ length l.words.items;
  same : (w : ℕ) → w < length l.fn.words.items → slice_index_or l.words.items w 0 ≡ slice_index_or l.fn.words.items w 0;
  clear : (i : ℕ) → IsClear l.words.items i → IsClear l.fn.words.items i;
}

abbrev pub decreases-loop-words : goal.decreases-loop-words
decreases-loop-words l = l.count - length l.words.items
