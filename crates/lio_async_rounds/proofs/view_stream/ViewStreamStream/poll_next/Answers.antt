use Rattle.lio_async_rounds.proofs.FutureLemmas.{on_pending}
use Rattle.lio_async_rounds.proofs.StreamLemmas.{gives-rests, gives-same, gives-value}
use Rattle.lio_async_rounds.proofs.view_stream.ViewStreamStream.poll_next.Goals as goal

pub returns-in-Ready-clause-value : goal.returns-in-Ready-clause-value
returns-in-Ready-clause-value c = gives-value c.args.self.now c.advance.new.self c.in-Ready.item c.in-Ready.ensures

pub returns-in-Ready-clause-rest : goal.returns-in-Ready-clause-rest
returns-in-Ready-clause-rest c = gives-rests c.args.self.now c.advance.new.self c.in-Ready.item c.in-Ready.ensures

pub returns-in-Pending-clause-same : goal.returns-in-Pending-clause-same
returns-in-Pending-clause-same c = on_pending c.yield_now.result _ (gives-same c.args.self.now c.advance.new.self c.in-Pending.ensures)
