use Rattle.lio_async_rounds.proofs.FutureLemmas.{on_pending, polls-same, polls-value}
use Rattle.lio_async_rounds.proofs.rounds_future.RoundsFutureFuture.poll.Goals as goal

pub returns-in-Ready-clause-value : goal.returns-in-Ready-clause-value
returns-in-Ready-clause-value c = polls-value c.args.self.now.machine c.in-Ready.output c.advance.new.self.machine c.in-Ready.ensures

pub returns-in-Pending-clause-same : goal.returns-in-Pending-clause-same
returns-in-Pending-clause-same c =
    on_pending c.yield_now.result _ (λ x gives. polls-same c.args.self.now.machine c.advance.new.self.machine x c.in-Pending.ensures gives)
