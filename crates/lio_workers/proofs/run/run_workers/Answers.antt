use Rattle.std.proofs.lemmas.Result.{IfOk-weaker}
use Rattle.lio_task.specs.Configuration.{configuration_of}
use Rattle.lio_rounds.specs.declared.by_rounds.Ran.{Ran}
use Rattle.lio_rounds.specs.Runs.{IsCompleteRun, IsMergeOfLogs, ran_of}
use Rattle.lio_workers.proofs.MergeLemmas.{complete-merge}
use Rattle.lio_workers.proofs.run.run_workers.Goals as goal

pub returns-clause-merge : goal.returns-clause-merge
returns-clause-merge g c =
    let script = c.args.script.now in
    let start = configuration_of script c.args.start in
    IfOk-weaker c.run_below.result (λ (ran : Ran). IsCompleteRun start (ran_of script ran)) (λ (ran : Ran). IsMergeOfLogs start (ran_of script ran))
    (λ ran complete. complete-merge start (ran_of script ran) complete) c.run_below.ensures.run
