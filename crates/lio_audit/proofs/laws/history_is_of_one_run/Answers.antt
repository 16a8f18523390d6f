use Rattle.lio_audit.proofs.LawLemmas.{history_is_of_one_run}
use Rattle.lio_audit.proofs.laws.history_is_of_one_run.Goals as goal

pub returns : goal.returns
returns c = history_is_of_one_run
