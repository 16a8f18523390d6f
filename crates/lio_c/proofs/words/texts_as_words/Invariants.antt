use Rattle.std.proofs.Common.{◌≡◌, take}
use Rattle.lio_front.specs.Sorted.{bytes_of_words}
use Rattle.lio_c.proofs.words.texts_as_words.Given as goal

-- the words so far
abbrev pub invariant-loop-number : goal.invariant-loop-number
invariant-loop-number l = bytes_of_words l.words.items ≡ take l.number l.items
