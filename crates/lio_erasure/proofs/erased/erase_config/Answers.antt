use Rattle.lio_erasure.proofs.KeptLemmas.{erased-next, kept-next}
use Rattle.lio_erasure.proofs.erased.erase_config.Goals as goal

pub loop-holder-preserved : goal.loop-holder-preserved
loop-holder-preserved c = (
  λ script. erased-next script c.args.observer.now c.loop-holder.low c.push.new.self c.deref-holder-items.result.now c.loop-holder.holder-index c.holder-item.result c.in_ok-erase_holder.field-0
      c.loop-holder-test.true c.holder-item.is c.in_ok-push.ensures.ok (c.in_ok-erase_holder.ensures.erased script) (c.loop-holder.invariant.0 script),
  kept-next c.loop-holder.low c.push.new.self c.in_ok-erase_holder.field-0 c.in_ok-push.ensures.ok c.loop-holder.invariant.1 c.in_ok-erase_holder.ensures.kept,
)

pub returns-clause-kept : goal.returns-clause-kept
returns-clause-kept c = c.loop-holder.invariant.1
