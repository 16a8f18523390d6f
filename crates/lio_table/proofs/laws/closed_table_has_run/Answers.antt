use Rattle.lio_table.proofs.Closing.{closed-with}
use Rattle.lio_table.proofs.laws.closed_table_has_run.Goals as goal

pub returns : goal.returns
returns c = closed-with
