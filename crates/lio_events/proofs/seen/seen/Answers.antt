use Rattle.lio_events.proofs.seen.seen.Goals as goal

pub returns : goal.returns
returns c = λ i. record (c.in_ok-seen.ensures i) { ticket = c.args.ticket }
