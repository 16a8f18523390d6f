use Rattle.std.proofs.lemmas.Result.{IfOk-weaker}
use Rattle.lio_rows.proofs.TableRows.{job_begins}
use Rattle.lio_rows.proofs.tables.table_of.Goals as goal

pub returns-clause-begins : goal.returns-clause-begins
returns-clause-begins c =
    IfOk-weaker c.of_config.result _ _ (λ both first. job_begins c.args.job.now c.script-script.result.now c.in_ok-config.config both.0 c.script-script.ensures.script c.in_ok-config.ensures.config first) c.of_config.ensures.first
