use Rattle.std.proofs.lemmas.Result.{IfOk-weaker}
use Rattle.lio_table.specs.Tables.{first_of, view_of}
use Rattle.lio_rows_host.proofs.TableLemmas.{closed_printable}
use Rattle.lio_rows_host.proofs.seats.merged.Goals as goal

pub returns : goal.returns
returns c =
    IfOk-weaker c.merge.result _ _
    (λ merged is. closed_printable c.args.job.now (first_of c.args.table) (view_of c.args.seat) c.in_ok-config.config merged c.policy.ensures.job c.requires.start c.in_ok-config.ensures.ran is) c.merge.ensures
