use Rattle.std.proofs.Common.{◌≡◌, ◌∙◌, ap, subst, ℕ, List}
use Rattle.lio_audit.specs.History.{IsOneHistoryOf, Says}
use Rattle.lio_audit.specs.declared.fault.AuditFault.TheVariants.{NotARun}
use Rattle.lio_calculus.specs.Run.{Ran}
use Rattle.lio_calculus.specs.Step.{Configuration}
use Rattle.lio_task.specs.Configuration.{configuration_of}
use Rattle.lio_policy.specs.Policy.{PolicyParts}
use Rattle.lio_start.specs.Job.{first_of}
use Rattle.lio_syntax.specs.Statements.{Procedure}
use Rattle.lio_ask_main.proofs.past.take_again.Goals as goal

pub returns-in-Ok-clause-ok : goal.returns-in-Ok-clause-ok
returns-in-Ok-clause-ok c =
    let job = c.args.past.now.job in
    let names = c.policy.inside.names in
    let names_are : names ≡ job.policy.names = ap (λ (p : PolicyParts). p.names) (c.policy.view_is ∙ c.policy-policy.ensures.policy) in
    let config = c.in_ok-config.config in
    let bytes : List ℕ = c.as_slice-history.result.now in
    let of_script : List Procedure → Ran = λ s. record { entries = c.in-Ok.taken.0; last = configuration_of s c.in-Ok.taken.1 } in
    let there : IsOneHistoryOf names (configuration_of job.script config) bytes (of_script job.script) =
    subst (λ (s : List Procedure). IsOneHistoryOf names (configuration_of s config) bytes (of_script s)) c.script-script.ensures.script c.in-Ok.ensures.ok in
    subst (λ (b : List ℕ). IsOneHistoryOf job.policy.names (first_of job) b (of_script job.script)) c.as_slice-history.ensures.value
    (subst (λ (n : List (List ℕ)). IsOneHistoryOf n (first_of job) bytes (of_script job.script)) names_are
    (subst (λ (d : Configuration). IsOneHistoryOf names d bytes (of_script job.script)) c.in_ok-config.ensures.first there))

pub returns-in-Err-NotARun-clause-err : goal.returns-in-Err-NotARun-clause-err
returns-in-Err-NotARun-clause-err c =
    let job = c.args.past.now.job in
    let names = c.policy.inside.names in
    let names_are : names ≡ job.policy.names = ap (λ (p : PolicyParts). p.names) (c.policy.view_is ∙ c.policy-policy.ensures.policy) in
    let config = c.in_ok-config.config in
    let bytes : List ℕ = c.as_slice-history.result.now in
    let fault = NotARun c.in-Err-NotARun.line in
    let said : Says names (configuration_of c.script-script.result.now config) bytes fault = rw c.in-Err-NotARun.field-0-is at c.in-Err-NotARun.ensures.err in
    let there : Says names (configuration_of job.script config) bytes fault =
    subst (λ (s : List Procedure). Says names (configuration_of s config) bytes fault) c.script-script.ensures.script said in
    subst (λ (b : List ℕ). Says job.policy.names (first_of job) b fault) c.as_slice-history.ensures.value
    (subst (λ (n : List (List ℕ)). Says n (first_of job) bytes fault) names_are
    (subst (λ (d : Configuration). Says names d bytes fault) c.in_ok-config.ensures.first there))
