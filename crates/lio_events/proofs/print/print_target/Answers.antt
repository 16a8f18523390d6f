use Rattle.lio_events.proofs.print.print_target.Goals as goal

pub returns-in_ok-push-in-None : goal.returns-in_ok-push-in-None
returns-in_ok-push-in-None c = rw c.in-None.is c.in_ok-push-in-None.ensures.items
