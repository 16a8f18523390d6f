use Rattle.std.proofs.Common.{sym, subst}
use Rattle.std.proofs.lemmas.Result.{IfOk-weaker}
use Rattle.lio_calculus.specs.Step.{Configuration}
use Rattle.lio_calculus_runs.specs.Configuration.{NamesOnly}
use Rattle.lio_start.specs.Job.{first_of}
use Rattle.lio_start.proofs.NameLemmas.{start_names_only}
use Rattle.lio_ask_main.proofs.past.begin.Goals as goal

pub returns-clause-named : goal.returns-clause-named
returns-clause-named c =
    let job = c.args.job.now in
    let kept = c.policy.ensures.job in
    let named : NamesOnly job.policy.names (first_of job) = start_names_only job.policy job.script job.inputs kept.policy kept.over in
    IfOk-weaker c.start.result _ _ (λ config same. subst (λ (d : Configuration). NamesOnly job.policy.names d) (sym same) named) c.start.ensures.config
