use Rattle.lio_table.proofs.MomentLemmas.{logs-logged}
use Rattle.lio_table.proofs.laws.logs_are_logged.Goals as goal

pub returns : goal.returns
returns c = logs-logged
