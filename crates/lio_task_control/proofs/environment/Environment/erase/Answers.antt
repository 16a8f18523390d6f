use Rattle.lio_task_control.proofs.OrderLemmas.{all_hidden_in_order}
use Rattle.lio_task_control.proofs.environment.Environment.erase.Goals as goal

pub invariant_of-result : goal.invariant_of-result
invariant_of-result c =
    all_hidden_in_order c.args.observer.now c.self.inside.bindings.items c.deref-binding-items.result.now c.loop-binding.bindings.items c.loop-binding.binding-index
    c.deref-binding-items.ensures.value c.self.invariant c.loop-binding-test.false c.loop-binding.invariant
