use Rattle.std.proofs.Common.{◌≡◌, ◌++◌, take}
use Rattle.lio_front.specs.Summary.{channel_lines}
use Rattle.lio_front.proofs.summing.print_channels.Given as goal

-- the lines of the channels so far
abbrev pub invariant-loop-number : goal.invariant-loop-number
invariant-loop-number l = l.out.items ≡ l.initial.out.items ++ channel_lines l.journal 0 (take l.number l.policy.channels)
