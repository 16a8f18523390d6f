use Rattle.std.proofs.lemmas.Result.{IfOk-weaker}
use Rattle.lio_table.specs.Tables.{view_of}
use Rattle.lio_rows.proofs.TableRows.{closed_printable}
use Rattle.lio_rows.proofs.tables.merged.Goals as goal

pub returns : goal.returns
returns c =
    IfOk-weaker c.merge.result _ _
    (λ merged is. closed_printable c.args.job.now c.args.table (view_of c.args.seat) c.in_ok-config.config merged c.policy.ensures.job c.requires.begins c.in_ok-config.ensures is) c.merge.ensures
