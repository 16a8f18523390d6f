use Rattle.std.proofs.Common.{◌≡◌, ◌∙◌, List}
use Rattle.std.proofs.lemmas.Result.{IfOk-weaker}
use Rattle.lio_syntax.specs.Statements.{Procedure}
use Rattle.lio_start.specs.Job.{first_of}
use Rattle.lio_task.specs.Configuration.{configuration_of}
use Rattle.lio_task.specs.declared.config.Config.{Config}
use Rattle.lio_rows.proofs.low.copied_start.Goals as goal

pub returns : goal.returns
returns c =
    let job = c.args.job.now in
    let config = c.in_ok-config.config in
    IfOk-weaker c.copy.result (λ (copy : Config). (s : List Procedure) → configuration_of s copy ≡ configuration_of s config)
    (λ (copy : Config). configuration_of job.script copy ≡ first_of job)
    (λ copy e. e job.script ∙ c.in_ok-config.ensures.config) c.copy.ensures.configuration
