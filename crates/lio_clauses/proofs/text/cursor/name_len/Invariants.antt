use Rattle.std.proofs.Common.{◌≡◌, ◌+◌, drop}
use Rattle.std.specs.List.{prefix_len}
use Rattle.lio_clauses.specs.Names.{is_name_byte}
use Rattle.lio_clauses.proofs.text.cursor.name_len.Given as goal

-- the bytes before the place may stand in a name
abbrev pub invariant-loop-place : goal.invariant-loop-place
invariant-loop-place l = l.place + prefix_len is_name_byte (drop l.place l.bytes) ≡ prefix_len is_name_byte l.bytes
