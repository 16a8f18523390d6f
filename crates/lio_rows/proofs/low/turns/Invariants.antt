use Rattle.std.proofs.Common.{All}
use Rattle.lio_calculus_runs.specs.NameLaws.{IsContentPrintable}
use Rattle.lio_calculus_runs.specs.Configuration.{NamesOnly}
use Rattle.lio_erasure.specs.LowParts.{low_of}
use Rattle.lio_rows.proofs.low.turns.Given as goal

abbrev pub invariant-loop-k : goal.invariant-loop-k
invariant-loop-k l = record { named : NamesOnly l.names (low_of l.low).configuration; contents : All (IsContentPrintable l.names) l.contents }
