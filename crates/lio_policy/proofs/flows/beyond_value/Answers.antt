use Rattle.std.proofs.Common.{ℕ, List, ◌≡◌, subst, IfOk}
use Rattle.lio_policy.proofs.FlowLemmas.{beyond-other}
use Rattle.lio_policy.proofs.flows.beyond_value.Goals as goal

pub returns-in_default : goal.returns-in_default
returns-in_default c =
    subst (λ (A : List (List ℕ)). IfOk c.copy.result (λ left. left ≡ A)) (beyond-other c.args.formula.now c.args.value.now c.in_default.not-Power) c.copy.ensures.ok
