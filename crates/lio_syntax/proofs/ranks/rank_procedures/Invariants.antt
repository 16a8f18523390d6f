use Rattle.std.proofs.Common.{◌≡◌}
use Rattle.lio_syntax.proofs.ranks.rank_procedures.Given as goal

-- the lines so far are as they were, and so are the others
abbrev pub invariant-loop-place : goal.invariant-loop-place
invariant-loop-place l = l.lines ≡ l.fn.lines
