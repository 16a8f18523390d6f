use Rattle.std.proofs.Common.{All}
use Rattle.lio_values.specs.Purity.{IsContentPure}
use Rattle.lio_rows.proofs.low.cells.Given as goal

-- the contents that are left are pure
abbrev pub invariant-loop-k : goal.invariant-loop-k
invariant-loop-k l = All IsContentPure l.contents
