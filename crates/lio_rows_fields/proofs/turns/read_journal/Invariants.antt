use Rattle.std.proofs.Common.{◌<◌, All}
use Rattle.lio_events.specs.Printable.{IsPrintable}
use Rattle.lio_rows_fields.proofs.turns.read_journal.Given as goal

-- the tickets so far are below the next, and the entries can be printed
abbrev pub invariant-loop : goal.invariant-loop
invariant-loop l = record {
  below : All (λ before. before.ticket < l.next) l.journal;
  printable : All (IsPrintable l.names) l.journal;
}
