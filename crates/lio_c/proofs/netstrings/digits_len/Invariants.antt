use Rattle.std.proofs.Common.{◌≡◌, ◌+◌, drop}
use Rattle.std.specs.List.{prefix_len}
use Rattle.lio_c.specs.Netstrings.{is_before_colon}
use Rattle.lio_c.proofs.netstrings.digits_len.Given as goal

-- none of the bytes before the place is `:`
abbrev pub invariant-loop-place : goal.invariant-loop-place
invariant-loop-place l = l.place + prefix_len is_before_colon (drop l.place l.bytes) ≡ prefix_len is_before_colon l.bytes
