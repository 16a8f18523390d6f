use Rattle.std.proofs.lemmas.Result.{IfOk-weaker}
use Rattle.lio_table.specs.Tables.{first_of}
use Rattle.lio_rows_host.proofs.TableLemmas.{starts}
use Rattle.lio_rows_host.proofs.seats.table_of.Goals as goal

pub returns-clause-start : goal.returns-clause-start
returns-clause-start c =
    IfOk-weaker c.of_config.result _ _ (λ both first. starts c.args.job.now c.script-script.result.now c.in_ok-config.config (first_of both.0) c.script-script.ensures.script c.in_ok-config.ensures.config first) c.of_config.ensures.first
