use Rattle.std.proofs.Common.{◌≡◌, ◌∙◌, ap, refl, [], ◌∷◌, ◌++◌}
use Rattle.lio_syntax.specs.Lines.{script_lines}
use Rattle.lio_task_control.specs.declared.frame.Frame.{Frame}
use Rattle.lio_task_control.specs.declared.frame.Call.{Call}
use Rattle.lio_syntax.specs.Items.{enter}
use Rattle.lio_task_control.specs.Continuation.{body_at, frame_over, place_of}
use Rattle.lio_task_control.proofs.ContinuationLemmas.{at_own, below, place_eq, moved, body_over, on_err, called_back}
use Rattle.lio_task_control.proofs.continuation.Continuation.call.Goals as goal

pub returns-clause-ok : goal.returns-clause-ok
unfolding place_of
returns-clause-ok c =
    let ls = script_lines c.args.script.now in
    let calls = c.args.self.now.calls.items in
    let news = c.put_call.new.calls.items in
    let call : Call = record { caller = c.replace-caller.result; name = c.in_ok-name.name } in
    let new : news ≡ calls ++ call ∷ [] = c.put_call.ensures ∙ ap (λ cs. cs ++ call ∷ []) c.in_ok-reserve.ensures.items in
    place_eq _ _ _ _ (ap (λ (f : Frame). f.environment) c.replace-caller.ensures.after ∙ c.of_body-frame.ensures.environment)
    (ap (λ (f : Frame). frame_over ls f (below ls news)) c.replace-caller.ensures.after
    ∙ body_over ls news c.of_body-frame.result (body_at ls c.args.line) c.of_body-frame.ensures.items
    ∙ ap (enter (body_at ls c.args.line))
    (called_back ls calls news call c.advance.new.self c.args.self.now.frame.environment c.args.name.now _ new c.replace-caller.ensures.value c.advance.ensures.environment c.in_ok-name.ensures.ok
    (moved ls calls c.args.self.now.frame c.advance.new.self c.advance.ensures.items (at_own _ c.requires))))

pub returns-in_err-reserve-clause-err : goal.returns-in_err-reserve-clause-err
unfolding place_of
returns-in_err-reserve-clause-err c =
    let ls = script_lines c.args.script.now in
    on_err c.from_residual-in_err-reserve.result _ (place_eq _ _ _ _ refl (ap (λ cs. frame_over ls c.args.self.now.frame (below ls cs)) c.in_err-reserve.ensures.items))
