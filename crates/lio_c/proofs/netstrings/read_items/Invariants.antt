use Rattle.std.proofs.Common.{length}
use Rattle.lio_c.proofs.ItemLemmas.{IsReadSoFar}
use Rattle.lio_c.proofs.netstrings.read_items.Given as goal

abbrev pub invariant-loop-rest : goal.invariant-loop-rest
invariant-loop-rest l = IsReadSoFar l.bytes l.items l.rest

abbrev pub decreases-loop-rest : goal.decreases-loop-rest
decreases-loop-rest l = length l.rest
