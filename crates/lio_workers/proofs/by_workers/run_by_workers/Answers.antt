use Rattle.std.proofs.Common.{List, subst, sym}
use Rattle.std.specs.Prelude.{IfOk}
use Rattle.std.proofs.lemmas.Result.{IfOk-weaker}
use Rattle.lio_syntax.specs.Statements.{Procedure}
use Rattle.lio_calculus.specs.Step.{Configuration}
use Rattle.lio_calculus_runs.specs.WellFormed.{IsWellFormed}
use Rattle.lio_task.specs.Configuration.{configuration_of}
use Rattle.lio_start.specs.Job.{JobParts, first_of}
use Rattle.lio_rounds.specs.declared.by_rounds.Ran.{Ran}
use Rattle.lio_rounds.specs.Headline.{IsRunOf}
use Rattle.lio_rounds.specs.Runs.{IsCompleteRun, IsMergeOfLogs, ran_of}
use Rattle.lio_rounds.proofs.RunLemmas.{complete-run_of_job}
use Rattle.lio_workers.proofs.by_workers.run_by_workers.Goals as goal

pub run_workers-requires-clause-well_formed : goal.run_workers-requires-clause-well_formed
run_workers-requires-clause-well_formed g c κs within =
    subst (λ (script : List Procedure). IsWellFormed (configuration_of script c.in_ok-config.config)) (sym c.script-script.ensures.script) c.in_ok-config.ensures.well_formed

pub returns-clause-merge : goal.returns-clause-merge
returns-clause-merge g c =
    let job : JobParts = c.args.job.now in
    let here = subst (λ (script : List Procedure). IfOk c.run_workers.result (λ (ran : Ran). IsMergeOfLogs (configuration_of script c.in_ok-config.config) (ran_of script ran))) c.script-script.ensures.script c.run_workers.ensures.merge in
    subst (λ (d : Configuration). IfOk c.run_workers.result (λ (ran : Ran). IsMergeOfLogs d (ran_of job.script ran))) c.in_ok-config.ensures.config here

pub returns-clause-run : goal.returns-clause-run
returns-clause-run g c =
    let job : JobParts = c.args.job.now in
    let here = subst (λ (script : List Procedure). IfOk c.run_workers.result (λ (ran : Ran). IsCompleteRun (configuration_of script c.in_ok-config.config) (ran_of script ran))) c.script-script.ensures.script c.run_workers.ensures.run in
    let first = subst (λ (d : Configuration). IfOk c.run_workers.result (λ (ran : Ran). IsCompleteRun d (ran_of job.script ran))) c.in_ok-config.ensures.config here in
    IfOk-weaker c.run_workers.result (λ (ran : Ran). IsCompleteRun (first_of job) (ran_of job.script ran)) (λ (ran : Ran). IsRunOf job (ran_of job.script ran))
    (λ ran complete. complete-run_of_job job (ran_of job.script ran) c.script-script.ensures.job complete) first
