use Rattle.std.proofs.Common.{◌≡◌, []}
use Rattle.lio_front.specs.Sends.{bytes_of_lists, received}
use Rattle.lio_front.proofs.sends.empty_lists.Given as goal

-- the lists so far
abbrev pub invariant-loop-number : goal.invariant-loop-number
invariant-loop-number l = bytes_of_lists l.lists.items ≡ received [] l._number
