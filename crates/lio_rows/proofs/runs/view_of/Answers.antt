use Rattle.lio_events.proofs.ViewLaws.{view_is_printable}
use Rattle.lio_rows.proofs.runs.view_of.Goals as goal

pub print_journal-requires : goal.print_journal-requires
print_journal-requires c = rw c.in_ok-seen.ensures (view_is_printable c.args.names.now c.args.observer.now 0 c.args.journal.now c.requires)
