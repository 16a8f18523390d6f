use Rattle.lio_calculus.proofs.JournalLemmas.{one_merge}
use Rattle.lio_calculus.proofs.log_laws.logs_have_one_merge.Goals as goal

pub returns : goal.returns
returns c = one_merge
