use Rattle.std.proofs.Common.{◌≡◌, ◌∙◌, ap, subst, List, ℕ}
use Rattle.lio_audit.specs.History.{IsHistoryOf, IsOneHistoryOf}
use Rattle.lio_calculus.specs.Run.{Ran}
use Rattle.lio_calculus.specs.Step.{Configuration}
use Rattle.lio_calculus_runs.specs.WellFormed.{IsWellFormed}
use Rattle.lio_task.specs.Configuration.{configuration_of}
use Rattle.lio_policy.specs.Policy.{PolicyParts}
use Rattle.lio_start.specs.Job.{first_of}
use Rattle.lio_syntax.specs.Statements.{Procedure}
use Rattle.lio_host_main.proofs.HistoryLemmas.{history-run}
use Rattle.lio_c.proofs.alone.replay.Goals as goal

pub returns-clause-history : goal.returns-clause-history
returns-clause-history c =
    let job = c.args.job.now in
    let bytes : List ℕ = c.args.history.now in
    let names = c.policy.inside.names in
    let names_are : names ≡ job.policy.names = ap (λ (p : PolicyParts). p.names) (c.policy.view_is ∙ c.policy-policy.ensures.policy) in
    let config = c.in_ok-config.config in
    let ended = c.in_ok-journal.config in
    let of_script : List Procedure → Ran = λ s. record { entries = c.in_ok-journal.journal; last = configuration_of s ended } in
    let there : IsOneHistoryOf names (configuration_of job.script config) bytes (of_script job.script) =
    subst (λ (s : List Procedure). IsOneHistoryOf names (configuration_of s config) bytes (of_script s)) c.script-script.ensures.script c.in_ok-journal.ensures.ok in
    subst (λ (n : List (List ℕ)). IsHistoryOf n (first_of job) bytes (of_script job.script)) names_are
    (subst (λ (d : Configuration). IsHistoryOf names d bytes (of_script job.script)) c.in_ok-config.ensures.first there.is_history)

pub returns-clause-run : goal.returns-clause-run
returns-clause-run c =
    let job = c.args.job.now in
    let ended = c.in_ok-journal.config in
    let ran : Ran = record { entries = c.in_ok-journal.journal; last = configuration_of job.script ended } in
    history-run job c.args.history.now ran c.in_ok-config.ensures.job (subst IsWellFormed c.in_ok-config.ensures.first c.in_ok-config.ensures.well_formed) (returns-clause-history c)
