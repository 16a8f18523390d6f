use Rattle.std.proofs.Common.{◌∙◌, ap, [], ◌∷◌}
use Rattle.lio_syntax.specs.Items.{Fail}
use Rattle.lio_task_control.specs.Continuation.{place_of}
use Rattle.lio_task_control.proofs.ContinuationLemmas.{below, place_eq, items_over, no_calls, resumed_outermost}
use Rattle.lio_task_control.proofs.continuation.Continuation.fail.Goals as goal

pub returns-clause-ok : goal.returns-clause-ok
unfolding place_of
returns-clause-ok c = λ lines.
    let news = c.resume_caller.new.self in
    let r = resumed_outermost c.args.self.now.calls.items c.truncate.new.self.items news.calls.items c.args.self.now.frame news.frame c.truncate.ensures.items c.resume_caller.ensures.none c.resume_caller.ensures.some in
    place_eq _ _ _ _ (c.fail.ensures.environment ∙ r.1)
    (items_over lines c.fail.new.self (Fail c.in_ok-fault.fault ∷ []) (below lines news.calls.items) (c.fail.ensures.items lines)
    ∙ ap (λ is. Fail c.in_ok-fault.fault ∷ is) (no_calls lines news.calls.items r.0)
    ∙ ap (λ f. Fail f ∷ []) c.in_ok-fault.ensures)
