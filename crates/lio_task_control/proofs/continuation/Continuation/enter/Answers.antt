use Rattle.lio_syntax.specs.Lines.{script_lines}
use Rattle.lio_task_control.specs.Continuation.{place_of}
use Rattle.lio_task_control.proofs.ContinuationLemmas.{at_own, place_eq, moved_in}
use Rattle.lio_task_control.proofs.continuation.Continuation.enter.Goals as goal

pub returns : goal.returns
unfolding place_of
returns c =
    let ls = script_lines c.args.script.now in
    place_eq _ _ _ _ c.enter.ensures.environment (moved_in ls c.args.self.now.calls.items c.args.self.now.frame c.enter.new.self c.enter.ensures.items (at_own _ c.requires))
