use Rattle.std.proofs.Common.{◌≡◌, ◌+◌, drop}
use Rattle.std.specs.List.{prefix_len}
use Rattle.lio_events_reading.specs.Cut.{is_inside}
use Rattle.lio_events_reading.proofs.cursor.inside_len.Given as goal

-- none of the bytes before the place is `>`
abbrev pub invariant-loop-place : goal.invariant-loop-place
invariant-loop-place l = l.place + prefix_len is_inside (drop l.place l.bytes) ≡ prefix_len is_inside l.bytes
