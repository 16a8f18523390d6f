use Rattle.lio_syntax.specs.Lines.{script_lines}
use Rattle.lio_task_control.specs.Continuation.{place_of}
use Rattle.lio_task_control.proofs.ContinuationLemmas.{at_own, place_eq, moved_other}
use Rattle.lio_task_control.proofs.continuation.Continuation.enter_other.Goals as goal

pub returns : goal.returns
unfolding place_of
returns c =
    let ls = script_lines c.args.script.now in
    place_eq _ _ _ _ c.enter_other.ensures.environment (moved_other ls c.args.self.now.calls.items c.args.self.now.frame c.enter_other.new.self c.enter_other.ensures.items (at_own _ c.requires))
