use Rattle.std.proofs.Common.{◌≡◌, ◌<◌, [], length, All}
use Rattle.lio_events.specs.Printable.{IsPrintable}
use Rattle.lio_bench.proofs.journals.journal_of.Given as goal

-- there are as many entries as tickets, with tickets below the next
abbrev pub invariant-loop-ticket : goal.invariant-loop-ticket
invariant-loop-ticket l = (length l.journal ≡ l.ticket) × All (λ e. e.ticket < l.ticket) l.journal × All (IsPrintable []) l.journal
