use Rattle.std.proofs.Common.{◌≡◌, take}
use Rattle.lio_events.specs.JournalText.{journal_text}
use Rattle.lio_events.proofs.print.print_journal.Given as goal

-- the lines so far
abbrev pub invariant-loop-entry : goal.invariant-loop-entry
invariant-loop-entry l = l.out.items ≡ journal_text l.names l.ticket (take l.entry-index l.entry-items)
