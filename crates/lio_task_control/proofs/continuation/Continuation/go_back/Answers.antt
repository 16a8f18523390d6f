use Rattle.std.proofs.Common.{◌-◌, ◌+◌, length, take, ◌≡◌, ◌∙◌, sym, ap, refl, [], arith}
use Rattle.lio_task_control.specs.declared.frame.Frame.{Frame}
use Rattle.lio_task_control.specs.declared.frame.Call.{Call}
use Rattle.lio_syntax.specs.Environment.{Environment}
use Rattle.lio_task_control.specs.Continuation.{frame_over, place_of}
use Rattle.lio_task_control.proofs.ContinuationLemmas.{below, place_eq, items_over, no_calls, went_back, went_nowhere, on_err, none_left, last_set, last_get, set_same}
use Rattle.lio_task_control.proofs.continuation.Continuation.go_back.Goals as goal

pub returns-clause-ok : goal.returns-clause-ok
unfolding place_of
returns-clause-ok c = λ lines.
    let calls = c.args.self.now.calls.items in
    let frame = c.args.self.now.frame in
    let i = c.len-count.result - 1 in
    let was = c.index_mut-call.result.now in
    let back : Call = record { caller = record { environment = c.bind.new.self; at = was.caller.at; stage = was.caller.stage }; name = was.name } in
    let rest = take i calls in
    let news = c.resume_caller.new.self in
    let more : c.len-count.result ≡ i + 1 = omega arith in
    let all : c.len-count.result ≡ length calls = omega arith in
    let r = c.resume_caller.ensures.some rest back (last_set calls c.len-count.result i back more all) in
    place_eq _ _ _ _ (ap (λ (f : Frame). f.environment) r.1 ∙ c.in_ok-bind.ensures.ok)
    (ap (λ cs. frame_over lines news.frame (below lines cs)) r.0 ∙ ap (λ (f : Frame). frame_over lines f (below lines rest)) r.1)
    ∙ sym (went_back lines c.args.value frame.environment frame calls rest was (last_get calls c.len-count.result i was more all c.index_mut-call.ensures.value))

pub returns-then-count-eq0-clause-ok : goal.returns-then-count-eq0-clause-ok
unfolding place_of
returns-then-count-eq0-clause-ok c = λ lines.
    let calls = c.args.self.now.calls.items in
    let frame = c.args.self.now.frame in
    let none : calls ≡ [] = none_left calls (omega arith) in
    place_eq _ _ _ _ c.finish.ensures.environment (items_over lines c.finish.new.self [] (below lines calls) (c.finish.ensures.items lines) ∙ no_calls lines calls none)
    ∙ sym (went_nowhere lines c.args.value frame.environment frame calls none)

pub returns-in_err-bind-clause-err : goal.returns-in_err-bind-clause-err
unfolding place_of
returns-in_err-bind-clause-err c =
    let calls = c.args.self.now.calls.items in
    let was = c.index_mut-call.result.now in
    let back : Call = record { caller = record { environment = c.bind.new.self; at = was.caller.at; stage = was.caller.stage }; name = was.name } in
    let same : back ≡ was = ap (λ (e : Environment). let b : Call = record { caller = record { environment = e; at = was.caller.at; stage = was.caller.stage }; name = was.name } in b) c.in_err-bind.ensures.err in
    on_err c.from_residual.result _ (λ lines.
    place_eq _ _ _ _ refl (ap (λ cs. frame_over lines c.args.self.now.frame (below lines cs)) (set_same calls (c.len-count.result - 1) was back c.index_mut-call.ensures.value same)))
