use Rattle.std.proofs.Common.{IsTrue, take}
use Rattle.std.specs.List.{list_all}
use Rattle.lio_syntax_lines.specs.Literals.{is_byte}
use Rattle.lio_events_reading.proofs.fits.text_fits.Given as goal

-- the bytes so far are bytes
abbrev pub invariant-loop-byte : goal.invariant-loop-byte
invariant-loop-byte l = IsTrue (list_all is_byte (take l.byte-index l.byte-items))
