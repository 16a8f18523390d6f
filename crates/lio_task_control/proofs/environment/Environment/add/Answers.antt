use Rattle.std.proofs.Common.{rules, ◌∙◌, subst}
use Rattle.lio_task_control.specs.Bound.{AreInOrder}
use Rattle.lio_task_control.proofs.OrderLemmas.{bound_in_order}
use Rattle.lio_task_control.proofs.environment.Environment.add.Goals as goal

pub invariant_of-self-2 : goal.invariant_of-self-2
invariant_of-self-2 c =
    subst AreInOrder (c.place_before-place.ensures.bound c.args.value ∙ search rules) (bound_in_order c.args.self.now c.args.name.now c.args.value (subst AreInOrder c.self.view_is c.self.invariant))
