use Rattle.std.proofs.Common.{◌≡◌, drop}
use Rattle.lio_front.specs.Command.{command_by, command_of}
use Rattle.lio_front.specs.Sorted.{AreNames, before, bytes_of_words, sorted_of}
use Rattle.lio_front.specs.Walk.{walked}
use Rattle.lio_front.proofs.words.sorted.sort_words.Given as goal

-- the words so far are sorted, and those that are left are walked from the place on
abbrev pub invariant-loop-word : goal.invariant-loop-word
invariant-loop-word l = record {
  same : command_of (bytes_of_words l.words) ≡ command_by (before (sorted_of l.sorted) (walked l.place (bytes_of_words (drop l.word-index l.words))));
  names : AreNames (sorted_of l.sorted);
}
