use Rattle.std.specs.Prelude.{◌==◌}
use Rattle.std.proofs.Common.{ap}
use Rattle.lio_task_plan.proofs.binding.is_main.Goals as goal

pub returns : goal.returns
returns c = λ lines. ap (λ n. n == 0) (c.open_calls.ensures lines)
