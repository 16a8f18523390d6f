use Rattle.std.specs.Prelude.{nat_le}
use Rattle.std.proofs.Common.{ap}
use Rattle.lio_task_plan.proofs.binding.is_deep.Goals as goal

pub returns : goal.returns
returns c = λ lines. ap (nat_le 64) (c.open_calls.ensures lines)
