use Rattle.lio_task_control.proofs.OrderLemmas.{name_at, set_in_order}
use Rattle.lio_task_control.proofs.environment.Environment.set.Goals as goal

pub invariant_of-self : goal.invariant_of-self
invariant_of-self c = set_in_order _ _ c.args.name.now _ _ _ c.self.view_is c.self.invariant c.in-Some.ensures (name_at _ _ _ _ _ c.self.view_is c.in-Some.ensures c.index_mut.ensures.value)
