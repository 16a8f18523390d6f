use Rattle.std.proofs.Common.{◌∙◌, sym, subst, ℕ, All}
use Rattle.lio_events.specs.Printable.{IsPrintable}
use Rattle.lio_policy.specs.Policy.{PolicyParts}
use Rattle.lio_task.specs.Logs.{log_in}
use Rattle.lio_rows.proofs.logs.log_told.Goals as goal

pub log_of-requires : goal.log_of-requires
log_of-requires c =
    subst (λ (p : PolicyParts). (n : ℕ) → All (IsPrintable p.names) (log_in c.in_ok-config.config n)) (sym (c.policy.view_is ∙ c.policy-policy.ensures.policy)) c.in_ok-config.ensures
