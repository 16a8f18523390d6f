use Rattle.std.proofs.Common.{refl}
use Rattle.lio_task_plan.proofs.nodes.making.Goals as goal

pub returns : goal.returns
returns c = refl
