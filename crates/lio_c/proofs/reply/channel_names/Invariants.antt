use Rattle.std.proofs.Common.{◌≡◌, map, take}
use Rattle.lio_c.proofs.reply.channel_names.Given as goal

-- the files of the channels so far
abbrev pub invariant-loop-channel : goal.invariant-loop-channel
invariant-loop-channel l = l.names ≡ map (λ channel. channel.file) (take l.channel-index l.policy.channels)
