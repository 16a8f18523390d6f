use Rattle.std.proofs.Common.{length, All}
use Rattle.lio_syntax_lines.specs.Line.{IsLine}
use Rattle.lio_syntax.specs.Verdict.{parsed_lines}
use Rattle.lio_syntax.proofs.ReadLemmas.{Reached}
use Rattle.lio_syntax.proofs.read.read_script.Given as goal

-- the lines so far break no rule, and the first fault is behind them
abbrev pub invariant-lines : goal.invariant-lines
invariant-lines l = record {
  reached : Reached (parsed_lines l.names l.fn.bytes) l.progress (parsed_lines l.names l.rest);
  sound : All (IsLine l.names) l.progress.lines.items;
}

abbrev pub decreases-lines : goal.decreases-lines
decreases-lines l = length l.rest
