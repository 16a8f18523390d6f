use Rattle.std.proofs.Common.{◌≡◌, ◌+◌, drop}
use Rattle.lio_syntax_lines.specs.Words.{word_len}
use Rattle.lio_syntax_lines.proofs.words.word_len.Given as goal

-- what is counted so far, and the bytes behind
abbrev pub invariant-loop-i : goal.invariant-loop-i
invariant-loop-i l = word_len l.fn.place l.fn.bytes ≡ l.i + word_len l.place (drop l.i l.bytes)
