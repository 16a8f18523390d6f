use Rattle.lio_policy.specs.Lists as spec
use Rattle.lio_policy.proofs.NestedLemmas.{extent_more}
use Rattle.lio_policy.proofs.lists.+extent.Goals as goal

pub extent_in_all-loop-arg-preserved : goal.extent_in_all-loop-arg-preserved
extent_in_all-loop-arg-preserved t c =
    extent_more (spec.extent c.args.inputs.now) c.args.args.now c.loop-arg.arg-index c.arg-item.result c.loop-arg-test.true c.arg-item.is c.loop-arg.all c.extent-one.result _
    c.loop-arg.invariant c.extent-one.ensures c.max.ensures c.saturating_add.ensures c.saturating_add-in-loop-arg.ensures
