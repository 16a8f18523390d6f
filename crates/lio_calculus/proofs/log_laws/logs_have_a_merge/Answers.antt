use Rattle.lio_calculus.proofs.MergeLemmas.{logs_have_a_merge}
use Rattle.lio_calculus.proofs.log_laws.logs_have_a_merge.Goals as goal

pub returns : goal.returns
returns c = logs_have_a_merge
