use Rattle.std.proofs.Common.{subst, Bool, []}
use Rattle.lio_audit.specs.Asking.{HasCome, RerunState, rerun_of}
use Rattle.lio_audit.proofs.AskLemmas.{leads-round}
use Rattle.lio_audit.proofs.rerun.Rerun.run.Goals as goal

pub loop-preserved : goal.loop-preserved
loop-preserved c =
    let now : RerunState = rerun_of c.loop.self in
    let new : RerunState = rerun_of c.round.new.self in
    record { leads = leads-round (rerun_of c.args.self.now) now new c.loop.invariant.leads (subst (λ (b : Bool). HasCome now new b []) c.if-branch.true c.in_ok-round.ensures.ok) c.in_ok-round.ensures.below; pure = c.round.ensures.pure }
