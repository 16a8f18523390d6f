use Rattle.lio_syntax.specs.Lines.{script_lines}
use Rattle.lio_task_control.specs.Continuation.{place_of}
use Rattle.lio_task_control.proofs.ContinuationLemmas.{place_eq, moved}
use Rattle.lio_task_control.proofs.continuation.Continuation.advance.Goals as goal

pub returns : goal.returns
unfolding place_of
returns c =
    let ls = script_lines c.args.script.now in
    place_eq _ _ _ _ c.advance.ensures.environment (moved ls c.args.self.now.calls.items c.args.self.now.frame c.advance.new.self c.advance.ensures.items c.requires)
