use Rattle.std.proofs.Common.{◌≡◌, ◌+◌, drop, true}
use Rattle.lio_events_reading.specs.Cut.{quoted_len}
use Rattle.lio_events_reading.proofs.cursor.quoted_len.Given as goal

-- what is counted so far, and the bytes behind
abbrev pub invariant-loop-place : goal.invariant-loop-place
invariant-loop-place l = l.place + quoted_len l.escaped (drop l.place l.bytes) ≡ quoted_len true l.fn.bytes
