use Rattle.lio_runq.specs.Passes.{done_by}
use Rattle.lio_runq.proofs.RuleLemmas.{pushes}
use Rattle.lio_runq.proofs.queue.RunQueue.push.Goals as goal

pub push_as-requires-clause-rule : goal.push_as-requires-clause-rule
push_as-requires-clause-rule g c = λ room. pushes g.B.Bound.bound room c.args.pass.now.seat.id (done_by c.args.pass.now.seat) c.args.n c.requires.below c.requires.left
