use Rattle.lio_rows.proofs.LogRows.{merge_printable}
use Rattle.lio_rows.proofs.logs.merge_of.Goals as goal

pub returns : goal.returns
returns c = merge_printable c.args.job.now.policy.names c.in_ok-ran.ran _ c.in_ok-ran.ensures.logs c.in_ok-ran.ensures.printable c.in_ok-merged.ensures
