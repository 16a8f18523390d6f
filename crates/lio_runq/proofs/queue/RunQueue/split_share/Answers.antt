use Rattle.std.proofs.Common.{subst, ℕ, ◌<◌, ◌≤◌}
use Rattle.lio_runq.specs.Passes.{done_by, left_of}
use Rattle.lio_runq.proofs.RuleLemmas.{forks}
use Rattle.lio_runq.proofs.queue.RunQueue.split_share.Goals as goal

pub another-other-requires-clause-rule : goal.another-other-requires-clause-rule
another-other-requires-clause-rule g c =
    let seat = c.args.pass.now.seat in
    forks g.B.Bound.bound seat.id (done_by seat) g.K.Share.pushes
    (subst (λ (n : ℕ). 1 ≤ n) c.requires.share c.requires.some) (subst (λ (n : ℕ). n < left_of seat) c.requires.share c.requires.left)
