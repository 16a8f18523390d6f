use Rattle.lio_start.proofs.LawLemmas.{each_task_begins}
use Rattle.lio_start.proofs.laws.each_task_begins.Goals as goal

pub returns : goal.returns
returns c = each_task_begins
