use Rattle.std.proofs.Common.{All}
use Rattle.lio_values.specs.Purity.{IsContentPure}
use Rattle.lio_bench.proofs.turns.turns.Given as goal

-- the contents that are left are pure
abbrev pub invariant-loop-turn : goal.invariant-loop-turn
invariant-loop-turn l = All IsContentPure l.contents
