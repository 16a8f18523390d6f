use Rattle.std.proofs.Common.{◌∙◌, sym, ap, List, [], ◌∷◌}
use Rattle.lio_syntax.specs.Lines.{script_lines}
use Rattle.lio_task_control.specs.declared.frame.Frame.{Frame}
use Rattle.lio_task_control.specs.declared.frame.Call.{Call}
use Rattle.lio_syntax.specs.Environment.{Environment}
use Rattle.lio_task_control.specs.Continuation.{place_of}
use Rattle.lio_task_control.proofs.ContinuationLemmas.{thrown-own, same_place}
use Rattle.std.proofs.lemmas.Result.{on_err_weaker, on_ok_weaker}
use Rattle.lio_syntax.specs.Items.{Fail}
use Rattle.lio_syntax.specs.Throwing.{Place}
use Rattle.lio_task_control.specs.Parts.{outermost}
use Rattle.lio_task_control.proofs.continuation.Continuation.throw.Goals as goal

pub returns-in-Ok-true-clause-ok : goal.returns-in-Ok-true-clause-ok
unfolding place_of
returns-in-Ok-true-clause-ok c =
    let h = rw c.in-Ok-true.field-0-test at c.in-Ok-true.ensures.caught in
    h ∙ thrown-own c.args.fault c.args.self.now.frame.environment _ c.requires

pub returns-in-Ok-false-clause-ok : goal.returns-in-Ok-false-clause-ok
unfolding place_of
returns-in-Ok-false-clause-ok c =
    let ls = script_lines c.args.script.now in
    let h = rw c.in-Ok-false.field-0-test at c.in-Ok-false.ensures.caught in
    on_ok_weaker c.fail.result
    (λ failed. failed ls
    ∙ ap (λ (e : Environment). let p : Place = record { environment = e; items = Fail c.args.fault ∷ [] } in p)
    (ap (λ (cs : List Call). outermost cs c.catch.new.self.frame) h.0.calls ∙ ap (λ (f : Frame). outermost c.args.self.now.calls.items f) h.0.frame)
    ∙ sym h.1 ∙ thrown-own c.args.fault c.args.self.now.frame.environment _ c.requires) c.fail.ensures.ok

pub returns-in-Ok-false-clause-err : goal.returns-in-Ok-false-clause-err
returns-in-Ok-false-clause-err c =
    let ls = script_lines c.args.script.now in
    let h = rw c.in-Ok-false.field-0-test at c.in-Ok-false.ensures.caught in
    on_err_weaker c.fail.result (λ same. ap (place_of ls) same ∙ same_place ls c.args.self.now c.catch.new.self h.0) c.fail.ensures.err

pub returns-in-Err-clause-err : goal.returns-in-Err-clause-err
returns-in-Err-clause-err c = same_place (script_lines c.args.script.now) c.args.self.now c.catch.new.self c.in-Err.ensures.err
