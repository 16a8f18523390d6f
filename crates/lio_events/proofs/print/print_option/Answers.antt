use Rattle.lio_events.proofs.print.print_option.Goals as goal

pub returns-in_ok-extend_from_slice-in-None : goal.returns-in_ok-extend_from_slice-in-None
returns-in_ok-extend_from_slice-in-None c = rw c.in-None.is c.in_ok-extend_from_slice-in-None.ensures.items
