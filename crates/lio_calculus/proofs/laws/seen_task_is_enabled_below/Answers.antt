use Rattle.lio_calculus.proofs.EnabledLemmas.{seen_task_is_enabled_below}
use Rattle.lio_calculus.proofs.laws.seen_task_is_enabled_below.Goals as goal

pub returns : goal.returns
returns c = seen_task_is_enabled_below
