use Rattle.lio_table.proofs.TicketKept.{ticket-adds}
use Rattle.lio_table.proofs.laws.ticket_adds_its_entry.Goals as goal

pub returns : goal.returns
returns c = ticket-adds
