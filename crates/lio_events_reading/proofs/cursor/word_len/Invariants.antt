use Rattle.std.proofs.Common.{◌≡◌, ◌+◌, drop}
use Rattle.std.specs.List.{prefix_len}
use Rattle.lio_events_reading.specs.Reading.{is_word_byte}
use Rattle.lio_events_reading.proofs.cursor.word_len.Given as goal

-- the bytes before the place may stand in a word
abbrev pub invariant-loop-place : goal.invariant-loop-place
invariant-loop-place l = l.place + prefix_len is_word_byte (drop l.place l.bytes) ≡ prefix_len is_word_byte l.bytes
