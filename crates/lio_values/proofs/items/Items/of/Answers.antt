use Rattle.lio_values.proofs.ItemsLemmas.{made-more}
use Rattle.lio_values.proofs.items.Items.of.Goals as goal

pub loop-value-preserved : goal.loop-value-preserved
loop-value-preserved c =
    made-more c.args.values.now c.loop-value.value-index c.value-item.result c.in_ok-copy.field-0 c.push.new.self c.loop-value.items c.loop-value.invariant c.in_ok-push.ensures.ok
    c.in_ok-copy.ensures c.value-item.is c.loop-value-test.true
