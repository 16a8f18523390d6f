use Rattle.lio_table.proofs.TicketKept.{ticket-kept}
use Rattle.lio_table.proofs.laws.ticket_keeps_the_rule.Goals as goal

pub returns : goal.returns
returns c = ticket-kept
