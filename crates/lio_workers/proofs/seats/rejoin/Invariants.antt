use Rattle.std.proofs.Common.{length}
use Rattle.lio_calculus.specs.Journals.{HaveSameEntries}
use Rattle.lio_table.specs.Tables.{view_of}
use Rattle.lio_workers.specs.Seated.{AreWorkersAt, HasTheRest}
use Rattle.lio_workers.proofs.seats.rejoin.Given as goal

-- the workers that are left have seats, the first one has the rest of the tickets, and the entries so far are those of the turns of the others
abbrev pub invariant-loop-worker : goal.invariant-loop-worker
invariant-loop-worker g l = record {
  workers : AreWorkersAt l.shared l.workers.items;
  rest : HasTheRest l.shared.table l.workers.items l.first;
  entries : HaveSameEntries l.entries.items (view_of l.first).drawn;
}

abbrev pub decreases-loop-worker : goal.decreases-loop-worker
decreases-loop-worker g l = length l.workers.items
