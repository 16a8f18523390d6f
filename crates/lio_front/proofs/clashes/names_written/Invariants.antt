use Rattle.std.proofs.Common.{◌≡◌, ◌++◌, map, take}
use Rattle.lio_front.proofs.clashes.names_written.Given as goal

-- the files of the channels so far
abbrev pub invariant-loop-channel : goal.invariant-loop-channel
invariant-loop-channel l = l.names ≡ map (λ channel. channel.file) (take l.channel-index l.policy.channels)

-- and the names behind them so far
abbrev pub invariant-loop-name : goal.invariant-loop-name
invariant-loop-name l = l.names ≡ map (λ channel. channel.file) l.policy.channels ++ take l.name-index l.written
