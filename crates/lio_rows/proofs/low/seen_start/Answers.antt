use Rattle.std.proofs.Common.{◌≡◌, ◌∙◌, refl, sym, ap, ℕ, List}
use Rattle.std.proofs.lemmas.Result.{IfOk-weaker}
use Rattle.lio_syntax.specs.Statements.{Procedure}
use Rattle.lio_calculus.specs.Erased.{erase}
use Rattle.lio_calculus.specs.Step.{Configuration}
use Rattle.lio_start.specs.Job.{JobParts, first_of}
use Rattle.lio_start.specs.Start.{start_of}
use Rattle.lio_task.specs.Configuration.{configuration_of}
use Rattle.lio_erasure.specs.Low.{low_configuration_of}
use Rattle.lio_erasure.specs.declared.cells.LowConfig.{LowConfig}
use Rattle.lio_rows.proofs.low.seen_start.Goals as goal

-- how long a text may become in the first configuration
start-longest : (job : JobParts) → (first_of job).program.longest ≡ job.policy.longest
unfolding start_of
start-longest job = refl

pub returns-clause-seen : goal.returns-clause-seen
returns-clause-seen c =
    let job = c.args.job.now in
    let observer = c.args.observer.now in
    let config = c.in_ok-config.config in
    let longest : config.longest ≡ job.policy.longest =
    ap (λ (d : Configuration). d.program.longest) c.in_ok-config.ensures ∙ start-longest job in
    IfOk-weaker c.erase_config.result (λ (low : LowConfig). (s : List Procedure) → low_configuration_of s config.longest low ≡ erase observer (configuration_of s config))
    (λ (low : LowConfig). low_configuration_of job.script job.policy.longest low ≡ erase observer (first_of job))
    (λ low e. ap (λ (n : ℕ). low_configuration_of job.script n low) (sym longest) ∙ e job.script ∙ ap (erase observer) c.in_ok-config.ensures) c.erase_config.ensures.erased
