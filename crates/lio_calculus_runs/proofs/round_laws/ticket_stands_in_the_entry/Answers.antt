use Rattle.lio_calculus_runs.proofs.TurnLemmas.{ticket_stands_in_the_entry}
use Rattle.lio_calculus_runs.proofs.round_laws.ticket_stands_in_the_entry.Goals as goal

pub returns : goal.returns
returns c = ticket_stands_in_the_entry
