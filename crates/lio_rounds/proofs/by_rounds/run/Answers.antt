use Rattle.std.proofs.lemmas.Result.{IfOk-weaker}
use Rattle.lio_start.specs.Job.{JobParts, first_of}
use Rattle.lio_rounds.specs.declared.by_rounds.Ran.{Ran}
use Rattle.lio_rounds.specs.FlowLaws.{GoesByFlows}
use Rattle.lio_rounds.specs.Headline.{IsRunOf}
use Rattle.lio_rounds.specs.Runs.{IsByRounds, RunsRounds, ran_of}
use Rattle.lio_rounds.proofs.FlowLemmas.{job_goes_by_flows}
use Rattle.lio_rounds.proofs.RunLemmas.{run-by_rounds, run-of_job}
use Rattle.lio_rounds.proofs.by_rounds.run.Goals as goal

pub returns-clause-run : goal.returns-clause-run
returns-clause-run c =
    let job : JobParts = c.args.job.now in
    IfOk-weaker c.run_to_the_end.result (λ (ran : Ran). RunsRounds (first_of job) (ran_of job.script ran)) (λ (ran : Ran). IsRunOf job (ran_of job.script ran))
    (λ ran runs. run-of_job job (ran_of job.script ran) c.run_to_the_end.ensures.job runs) c.run_to_the_end.ensures.rounds

pub returns-clause-rounds : goal.returns-clause-rounds
returns-clause-rounds c =
    let job : JobParts = c.args.job.now in
    IfOk-weaker c.run_to_the_end.result (λ (ran : Ran). RunsRounds (first_of job) (ran_of job.script ran)) (λ (ran : Ran). IsByRounds (first_of job) (ran_of job.script ran))
    (λ ran runs. run-by_rounds (first_of job) (ran_of job.script ran) runs) c.run_to_the_end.ensures.rounds

pub returns-clause-flows : goal.returns-clause-flows
returns-clause-flows c =
    let job : JobParts = c.args.job.now in
    IfOk-weaker c.run_to_the_end.result (λ (ran : Ran). RunsRounds (first_of job) (ran_of job.script ran)) (λ (ran : Ran). GoesByFlows job (ran_of job.script ran))
    (λ ran runs. job_goes_by_flows job (ran_of job.script ran) c.run_to_the_end.ensures.job (run-of_job job (ran_of job.script ran) c.run_to_the_end.ensures.job runs).is_run
    (run-by_rounds (first_of job) (ran_of job.script ran) runs)) c.run_to_the_end.ensures.rounds
