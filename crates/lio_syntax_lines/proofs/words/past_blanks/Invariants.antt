use Rattle.std.proofs.Common.{◌≡◌, length}
use Rattle.lio_syntax_lines.specs.Words.{words}
use Rattle.lio_syntax_lines.proofs.words.past_blanks.Given as goal

abbrev pub invariant-loop-rest : goal.invariant-loop-rest
invariant-loop-rest l = words l.rest ≡ words l.fn.bytes

abbrev pub decreases-loop-rest : goal.decreases-loop-rest
decreases-loop-rest l = length l.rest
