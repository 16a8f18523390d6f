use Rattle.std.proofs.Common.{◌≡◌, length, map, take}
use Rattle.lio_front.specs.Sends.{received}
use Rattle.lio_front.proofs.sends.channels_lengths.Given as goal

-- the counts so far
abbrev pub invariant-loop-entry : goal.invariant-loop-entry
invariant-loop-entry l = l.lengths.items ≡ map length (received (take l.entry-index l.entry-items) l.count)
