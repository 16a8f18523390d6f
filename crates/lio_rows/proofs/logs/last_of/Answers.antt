use Rattle.lio_rows.proofs.LogRows.{logs_printable}
use Rattle.lio_rows.proofs.logs.last_of.Goals as goal

pub returns : goal.returns
returns c = logs_printable c.args.job.now.policy.names c.in_ok-ran.ran c.in_ok-ran.ensures.logs c.in_ok-ran.ensures.printable
