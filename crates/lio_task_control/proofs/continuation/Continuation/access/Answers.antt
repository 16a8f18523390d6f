use Rattle.lio_syntax.specs.Lines.{script_lines}
use Rattle.lio_task_control.specs.Continuation.{place_of}
use Rattle.lio_task_control.proofs.ContinuationLemmas.{place_eq, moved_access}
use Rattle.lio_task_control.proofs.continuation.Continuation.access.Goals as goal

pub returns : goal.returns
unfolding place_of
returns c = λ simple begins.
    let ls = script_lines c.args.script.now in
    place_eq _ _ _ _ c.access.ensures.environment (moved_access ls c.args.self.now.calls.items c.args.self.now.frame c.access.new.self simple (c.access.ensures.items ls) begins)
