use Rattle.std.proofs.Common.{◌-◌, ◌+◌, ◌<◌, length, take, ◌≡◌, ◌∙◌, sym, ap, refl, List, [], ◌∷◌, arith}
use Rattle.lio_syntax.specs.Lines.{script_lines}
use Rattle.lio_task_control.specs.declared.frame.Frame.{Frame}
use Rattle.lio_task_control.specs.declared.frame.Call.{Call}
use Rattle.lio_syntax.specs.Environment.{Environment}
use Rattle.lio_task_control.specs.Continuation.{frame_over, place_of}
use Rattle.lio_task_control.proofs.ContinuationLemmas.{below, place_eq, on_err, set_same, above, above-all, above-at, above-none, thrown-call, thrown-none, take_all}
use Rattle.std.proofs.Common.{rules}
use Rattle.std.proofs.Math.ListN.{set}
use Rattle.std.proofs.lemmas.List.{take_more_set}
use Rattle.lio_syntax.specs.Items.{Fail}
use Rattle.lio_syntax.specs.Throwing.{Place, thrown}
use Rattle.lio_task_control.specs.Parts.{outermost}
use Rattle.lio_task_control.proofs.continuation.Continuation.catch.Goals as goal

pub returns-in_err-catch-clause-caught : goal.returns-in_err-catch-clause-caught
returns-in_err-catch-clause-caught c = search rules

pub returns-in_err-catch-clause-err : goal.returns-in_err-catch-clause-err
returns-in_err-catch-clause-err c = on_err c.from_residual.result _ (record { calls = refl; frame = c.in_err-catch.ensures.err })

pub returns-then-branch-clause-caught : goal.returns-then-branch-clause-caught
unfolding place_of
returns-then-branch-clause-caught c =
    let h = rw c.if-branch.true at c.in_ok-catch.ensures.caught in
    sym (h (below (script_lines c.args.script.now) c.args.self.now.calls.items))

pub calls-init : goal.calls-init
unfolding place_of
calls-init c =
    let ls = script_lines c.args.script.now in
    let fault = c.args.fault.now in
    let calls = c.args.self.now.calls.items in
    let count = c.len-count.result in
    let env = c.args.self.now.frame.environment in
    let all : count ≡ length calls = omega arith in
    let h = rw c.if-branch.false at c.in_ok-catch.ensures.caught in
    record {
      within = omega arith;
      calls = refl;
      frame = h.0;
      same = h.1 env (below ls calls) ∙ ap (λ cs. thrown fault env (below ls cs)) (sym (take_all calls count all))
          ∙ ap (λ (e : Environment). thrown fault e (below ls (take count calls))) (sym (above-all calls c.catch.new.self count all ∙ ap (λ (f : Frame). f.environment) h.0));
    }

pub overflow_sub-count : goal.overflow_sub-count
overflow_sub-count c = omega arith

pub index_mut-call-requires : goal.index_mut-call-requires
index_mut-call-requires c = omega (arith, c.calls.invariant.within)

pub returns-in_err-catch-2-clause-caught : goal.returns-in_err-catch-2-clause-caught
returns-in_err-catch-2-clause-caught c = search rules

pub returns-in_err-catch-2-clause-err : goal.returns-in_err-catch-2-clause-err
returns-in_err-catch-2-clause-err c =
    let ls = script_lines c.args.script.now in
    let fault = c.args.fault.now in
    let calls = c.calls.self.calls.items in
    let frame = c.calls.self.frame in
    let i = c.calls.count - 1 in
    let was = c.index_mut-call.result.now in
    let back : Call = record { caller = c.catch-in-calls.new.self; name = was.name } in
    let same : back ≡ was = ap (λ (f : Frame). let b : Call = record { caller = f; name = was.name } in b) c.in_err-catch-2.ensures.err in
    on_err c.from_residual-in_err-catch-2.result _ (record { calls = set_same calls i was back c.index_mut-call.ensures.value same ∙ c.calls.invariant.calls; frame = c.calls.invariant.frame })

pub overflow_add-count : goal.overflow_add-count
overflow_add-count c = search rules

pub returns-then-branch-2-clause-caught : goal.returns-then-branch-2-clause-caught
unfolding place_of
returns-then-branch-2-clause-caught c =
    let ls = script_lines c.args.script.now in
    let fault = c.args.fault.now in
    let calls = c.calls.self.calls.items in
    let frame = c.calls.self.frame in
    let i = c.calls.count - 1 in
    let was = c.index_mut-call.result.now in
    let back : Call = record { caller = c.catch-in-calls.new.self; name = was.name } in
    let rest = take i calls in
    let news = c.resume_caller.new.self in
    let more : c.calls.count ≡ i + 1 = omega arith in
    let within : i < length calls = omega (arith, c.calls.invariant.within) in
    let h = rw c.if-branch-2.true at c.in_ok-catch-2.ensures.caught in
    let r = c.resume_caller.ensures.some rest back (c.truncate.ensures.items ∙ take_more_set calls i back within) in
    place_eq _ _ _ _ (ap (λ (f : Frame). f.environment) r.1)
    (ap (λ cs. frame_over ls news.frame (below ls cs)) r.0 ∙ ap (λ (f : Frame). frame_over ls f (below ls rest)) r.1)
    ∙ sym (c.calls.invariant.same ∙ thrown-call ls fault (above calls frame c.calls.count) calls c.calls.count i was more within c.index_mut-call.ensures.value ∙ h (below ls rest))

pub calls-smaller : goal.calls-smaller
calls-smaller c = omega arith

pub calls-preserved : goal.calls-preserved
unfolding place_of
calls-preserved c =
    let ls = script_lines c.args.script.now in
    let fault = c.args.fault.now in
    let calls = c.calls.self.calls.items in
    let frame = c.calls.self.frame in
    let i = c.calls.count - 1 in
    let was = c.index_mut-call.result.now in
    let back : Call = record { caller = c.catch-in-calls.new.self; name = was.name } in
    let more : c.calls.count ≡ i + 1 = omega arith in
    let within : i < length calls = omega (arith, c.calls.invariant.within) in
    let at = c.index_mut-call.ensures.value in
    let h = rw c.if-branch-2.false at c.in_ok-catch-2.ensures.caught in
    let same : back ≡ was = ap (λ (f : Frame). let b : Call = record { caller = f; name = was.name } in b) h.0 in
    let kept : set calls i back ≡ calls = set_same calls i was back at same in
    record {
      within = omega (arith, ap length kept);
      calls = kept ∙ c.calls.invariant.calls;
      frame = c.calls.invariant.frame;
      same = c.calls.invariant.same ∙ thrown-call ls fault (above calls frame c.calls.count) calls c.calls.count i was more within at
          ∙ h.1 was.caller.environment (below ls (take i calls))
          ∙ ap (λ (e : Environment). thrown fault e (below ls (take i calls))) (sym (above-at calls frame i was within at))
          ∙ ap (λ (cs : List Call). thrown fault (above cs frame i) (below ls (take i cs))) (sym kept);
    }

pub returns-clause-caught : goal.returns-clause-caught
unfolding place_of
returns-clause-caught c =
    let ls = script_lines c.args.script.now in
    let fault = c.args.fault.now in
    let calls = c.calls.self.calls.items in
    let frame = c.calls.self.frame in
    let zero : c.calls.count ≡ 0 = omega arith in (
      record { calls = c.calls.invariant.calls; frame = c.calls.invariant.frame },
      c.calls.invariant.same ∙ thrown-none ls fault (above calls frame c.calls.count) calls c.calls.count zero
          ∙ ap (λ (e : Environment). let p : Place = record { environment = e; items = Fail fault ∷ [] } in p)
          (above-none calls frame c.calls.count zero ∙ ap (λ (cs : List Call). outermost cs frame) c.calls.invariant.calls ∙ ap (λ (f : Frame). outermost c.args.self.now.calls.items f) c.calls.invariant.frame),
    )
