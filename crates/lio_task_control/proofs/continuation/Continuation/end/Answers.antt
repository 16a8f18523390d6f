use Rattle.std.proofs.Common.{◌∙◌, []}
use Rattle.lio_task_control.specs.Continuation.{place_of}
use Rattle.lio_task_control.proofs.ContinuationLemmas.{below, place_eq, items_over, no_calls}
use Rattle.lio_task_control.proofs.continuation.Continuation.end.Goals as goal

pub returns : goal.returns
unfolding place_of
returns c = λ lines.
    place_eq _ _ _ _ c.clear-2.ensures.environment
    (items_over lines c.clear-2.new.self [] (below lines c.clear.new.self.items) (c.clear-2.ensures.items lines) ∙ no_calls lines c.clear.new.self.items c.clear.ensures.items)
