use Rattle.std.proofs.Common.{◌≡◌, ◌++◌, drop}
use Rattle.lio_rows_fields.specs.Escape.{escaped}
use Rattle.lio_rows_fields.proofs.escaping.escape.Given as goal

-- the text so far, and how the bytes that are left are written, are how all are written
abbrev pub invariant-loop-byte : goal.invariant-loop-byte
invariant-loop-byte l = l.text.items ++ escaped (drop l.byte-index l.bytes) ≡ escaped l.bytes
