use Rattle.lio_task_control.specs.declared.frame.Stage.{Stage}
use Rattle.std.proofs.Common.{ℕ, ◌++◌, length, take, ◌≡◌, ◌∙◌, sym, ap, [], arith}
use Rattle.lio_task_control.specs.Continuation.{frame_over, place_of, stage_items}
use Rattle.lio_task_control.proofs.ContinuationLemmas.{below, place_eq, take_all, calls_over-push, calls_over-take}
use Rattle.lio_task_control.specs.Continuation.{call_over, calls_over}
use Rattle.lio_task_control.proofs.continuation.Continuation.copy.Goals as goal

pub loop-call-preserved : goal.loop-call-preserved
loop-call-preserved c = λ lines items.
    let i = c.loop-call.call-index in
    let calls = c.deref-call-items.result.now in
    let X = calls_over lines (take i calls) items in
    ap (λ cs. calls_over lines cs items) c.in_ok-push.ensures.items ∙ calls_over-push lines c.loop-call.calls.items c.in_ok-copy.field-0 items
    ∙ ap (call_over lines c.in_ok-copy.field-0) (c.loop-call.invariant lines items) ∙ c.in_ok-copy.ensures lines X
    ∙ sym (calls_over-take lines calls i c.call-item.result items (omega arith) c.call-item.is)

pub returns : goal.returns
unfolding place_of
returns c = λ lines.
    let copies = c.loop-call.calls.items in
    let calls = c.deref-call-items.result.now in
    let all : c.loop-call.call-index ≡ length calls = omega arith in
    place_eq _ _ _ _ c.in_ok-frame.ensures.environment
    (ap (λ (at : ℕ). stage_items lines at c.in_ok-frame.frame.stage ++ below lines copies) c.in_ok-frame.ensures.at
    ∙ ap (λ (s : Stage). stage_items lines c.args.self.now.frame.at s ++ below lines copies) c.in_ok-frame.ensures.stage
    ∙ ap (frame_over lines c.args.self.now.frame) (c.loop-call.invariant lines [] ∙ ap (λ cs. calls_over lines cs []) (take_all calls c.loop-call.call-index all ∙ c.deref-call-items.ensures.value)))
