use Rattle.std.proofs.Common.{◌∙◌, ap}
use Rattle.lio_syntax.specs.Lines.{script_lines}
use Rattle.lio_syntax.specs.Items.{enter}
use Rattle.lio_task_control.specs.Continuation.{body_at, place_of}
use Rattle.lio_task_control.proofs.ContinuationLemmas.{place_eq, body_over, no_calls}
use Rattle.lio_task_control.proofs.continuation.Continuation.of_body.Goals as goal

pub returns : goal.returns
unfolding place_of
returns c =
    let ls = script_lines c.args.script.now in
    place_eq _ _ _ _ c.of_body.ensures.environment
    (body_over ls c.new.result.items c.of_body.result (body_at ls c.args.line) c.of_body.ensures.items ∙ ap (enter (body_at ls c.args.line)) (no_calls ls c.new.result.items c.new.ensures.items))
