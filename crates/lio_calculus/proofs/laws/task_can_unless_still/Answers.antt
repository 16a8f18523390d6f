use Rattle.lio_calculus.proofs.WaitingLemmas.{task_can_unless_still}
use Rattle.lio_calculus.proofs.laws.task_can_unless_still.Goals as goal

pub returns : goal.returns
returns c = task_can_unless_still
