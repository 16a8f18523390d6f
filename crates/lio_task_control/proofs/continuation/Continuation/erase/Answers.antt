use Rattle.lio_task_control.specs.declared.frame.Stage.{Stage}
use Rattle.std.proofs.Common.{ℕ, ◌++◌, length, take, ◌≡◌, ◌∙◌, sym, ap, [], List, map, arith}
use Rattle.lio_task_control.specs.declared.frame.Call.{Call}
use Rattle.lio_task_control.specs.Continuation.{call_over, calls_over, frame_over, place_of, stage_items, frame_items}
use Rattle.lio_syntax.specs.Hiding.{hide_item, hide_place}
use Rattle.lio_task_control.proofs.ContinuationLemmas.{below, place_eq, take_all, calls_over-push, calls_over-take}
use Rattle.lio_task_control.proofs.OwnLemmas.{frame-no_back, hidden-over}
use Rattle.lio_task_control.proofs.continuation.Continuation.erase.Goals as goal

pub loop-call-init : goal.loop-call-init
unfolding calls_over
loop-call-init c = λ lines items. ap (λ (cs : List Call). calls_over lines cs (map (hide_item c.args.observer.now) items)) c.new-calls.ensures.items

pub loop-call-preserved : goal.loop-call-preserved
loop-call-preserved c = λ lines items.
    let o = c.args.observer.now in
    let i = c.loop-call.call-index in
    let calls = c.deref-call-items.result.now in
    let hidden = map (hide_item o) items in
    ap (λ cs. calls_over lines cs hidden) c.in_ok-push.ensures.items ∙ calls_over-push lines c.loop-call.calls.items c.in_ok-erase.field-0 hidden
    ∙ ap (call_over lines c.in_ok-erase.field-0) (c.loop-call.invariant lines items) ∙ c.in_ok-erase.ensures lines (calls_over lines (take i calls) items)
    ∙ sym (ap (map (hide_item o)) (calls_over-take lines calls i c.call-item.result items (omega arith) c.call-item.is))

pub returns : goal.returns
unfolding place_of hide_place
returns c = λ lines.
    let o = c.args.observer.now in
    let copies = c.loop-call.calls.items in
    let calls = c.deref-call-items.result.now in
    let was = c.args.self.now in
    let all : c.loop-call.call-index ≡ length calls = omega arith in
    let back = c.loop-call.invariant lines [] ∙ ap (λ (cs : List Call). map (hide_item o) (calls_over lines cs [])) (take_all calls c.loop-call.call-index all ∙ c.deref-call-items.ensures.value) in
    place_eq _ _ _ _ c.in_ok-frame.ensures.environment
    (ap (λ (at : ℕ). stage_items lines at c.in_ok-frame.frame.stage ++ below lines copies) c.in_ok-frame.ensures.at
    ∙ ap (λ (s : Stage). stage_items lines c.args.self.now.frame.at s ++ below lines copies) c.in_ok-frame.ensures.stage
    ∙ ap (frame_over lines was.frame) back
    ∙ hidden-over o (frame_items lines was.frame) (below lines was.calls.items) (frame-no_back lines was.frame))
