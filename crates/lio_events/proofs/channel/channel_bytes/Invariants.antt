use Rattle.std.proofs.Common.{◌≡◌, take}
use Rattle.lio_events.specs.ChannelBytes.{channel_bytes}
use Rattle.lio_events.proofs.channel.channel_bytes.Given as goal

-- the bytes so far
abbrev pub invariant-loop-entry : goal.invariant-loop-entry
invariant-loop-entry l = l.bytes.items ≡ channel_bytes (take l.entry-index l.entry-items) l.channel
