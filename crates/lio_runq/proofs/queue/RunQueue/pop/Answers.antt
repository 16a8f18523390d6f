use Rattle.lio_runq.specs.Passes.{done_by}
use Rattle.lio_runq.proofs.RuleLemmas.{learns, pops}
use Rattle.lio_runq.proofs.queue.RunQueue.pop.Goals as goal

pub pop_as-requires-clause-rule : goal.pop_as-requires-clause-rule
pop_as-requires-clause-rule g c =
    let seat = c.args.pass.now.seat in (
      pops g.B.Bound.bound seat.id (done_by seat),
      learns g.B.Bound.bound seat.id (done_by seat),
    )
