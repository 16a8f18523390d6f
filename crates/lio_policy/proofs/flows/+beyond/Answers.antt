use Rattle.std.proofs.Common.{◌≡◌, ◌∙◌, ℕ, List, sym, subst, IfOk}
use Rattle.lio_policy.specs.Powers.{power_in}
use Rattle.lio_policy.proofs.FlowLemmas.{beyond-input, beyond-items, beyond-more, without-nothing}
use Rattle.lio_policy.proofs.flows.+beyond.Goals as goal

pub beyond_argument-returns-in-Input : goal.beyond_argument-returns-in-Input
beyond_argument-returns-in-Input t c =
    subst (λ (A : List (List ℕ)). IfOk c.copy.result (λ left. left ≡ A)) (beyond-input c.args.formula.now c.args.arg.now _ c.in-Input.is) c.copy.ensures.ok

pub beyond_argument-returns-in-Items : goal.beyond_argument-returns-in-Items
beyond_argument-returns-in-Items t c =
    subst (λ (A : List (List ℕ)). IfOk c.beyond_arguments.result (λ left. left ≡ A)) (beyond-items c.args.formula.now c.args.arg.now _ c.as_slice.result.now c.in-Items.is c.as_slice.ensures)
    c.beyond_arguments.ensures

pub beyond_arguments-loop-arg-init : goal.beyond_arguments-loop-arg-init
beyond_arguments-loop-arg-init t c = c.in_ok-left.ensures.ok ∙ sym (without-nothing c.args.formula.now)

pub beyond_arguments-loop-arg-preserved : goal.beyond_arguments-loop-arg-preserved
beyond_arguments-loop-arg-preserved t c =
    beyond-more power_in c.args.formula.now c.loop-arg.left c.in_ok-left-2.left c.args.args.now c.loop-arg.arg-index c.arg-item.result c.loop-arg-test.true c.arg-item.is c.loop-arg.invariant
    c.in_ok-left-2.ensures
