use Rattle.std.proofs.Common.{◌≡◌, take}
use Rattle.lio_front.specs.Sends.{bytes_of_lists, received}
use Rattle.lio_front.proofs.sends.channels_bytes.Given as goal

-- the bytes so far
abbrev pub invariant-loop-entry : goal.invariant-loop-entry
invariant-loop-entry l = bytes_of_lists l.lists.items ≡ received (take l.entry-index l.entry-items) l.count
