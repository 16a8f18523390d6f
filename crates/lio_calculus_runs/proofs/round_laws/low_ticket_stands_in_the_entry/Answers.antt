use Rattle.lio_calculus_runs.proofs.LowTurnLemmas.{low_ticket_stands_in_the_entry}
use Rattle.lio_calculus_runs.proofs.round_laws.low_ticket_stands_in_the_entry.Goals as goal

pub returns : goal.returns
returns c = low_ticket_stands_in_the_entry
