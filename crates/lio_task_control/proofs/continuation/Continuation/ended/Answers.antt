use Rattle.std.proofs.Common.{◌∙◌, []}
use Rattle.lio_task_control.specs.Continuation.{place_of}
use Rattle.lio_task_control.proofs.ContinuationLemmas.{below, place_eq, items_over, no_calls}
use Rattle.lio_task_control.proofs.continuation.Continuation.ended.Goals as goal

pub returns : goal.returns
unfolding place_of
returns c = λ lines.
    place_eq _ _ _ _ c.ended.ensures.environment (items_over lines c.ended.result [] (below lines c.new.result.items) (c.ended.ensures.items lines) ∙ no_calls lines c.new.result.items c.new.ensures.items)
