use Rattle.std.proofs.Common.{◌+◌, sym, subst, ap, ◌∙◌}
use Rattle.lio_calculus.specs.Operands.{all_bound}
use Rattle.lio_task_turns.proofs.OperandLemmas.{Goes, goes-first, goes-on, goes-none, goes-all}
use Rattle.lio_task_turns.proofs.operands.values.Goals as goal

pub loop-operand-init : goal.loop-operand-init
loop-operand-init c = record {
  items = c.as_slice-operand-items.ensures;
  goes = subst (Goes c.args.environment.now c.as_slice-operand-items.result.now 0) (sym c.new-values.ensures) (goes-first c.args.environment.now c.as_slice-operand-items.result.now);
}

pub returns-in_default : goal.returns-in_default
returns-in_default c =
    goes-none c.args.environment.now c.as_slice-operand-items.result.now c.loop-operand.operand-index c.loop-operand.values c.operand-item.result c.loop-operand-test.true c.operand-item.is c.loop-operand.invariant.goes
    (sym c.in_default.is ∙ c.in_ok-value.ensures) ∙ ap (all_bound c.args.environment.now) c.as_slice-operand-items.ensures

pub loop-operand-preserved : goal.loop-operand-preserved
loop-operand-preserved c = record {
  items = c.as_slice-operand-items.ensures;
  goes = subst (Goes c.args.environment.now c.as_slice-operand-items.result.now (c.loop-operand.operand-index + 1)) (sym c.in_ok-push.ensures.ok)
      (goes-on c.args.environment.now c.as_slice-operand-items.result.now c.loop-operand.operand-index c.loop-operand.values c.operand-item.result c.in-Some.value c.loop-operand-test.true c.operand-item.is c.loop-operand.invariant.goes
      (sym c.in-Some.is ∙ c.in_ok-value.ensures));
}

pub returns : goal.returns
returns c =
    goes-all c.args.environment.now c.as_slice-operand-items.result.now c.loop-operand.operand-index c.loop-operand.values c.loop-operand-test.false c.loop-operand.invariant.goes ∙ ap (all_bound c.args.environment.now) c.as_slice-operand-items.ensures
