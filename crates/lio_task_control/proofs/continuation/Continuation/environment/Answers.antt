use Rattle.std.proofs.Common.{refl}
use Rattle.lio_task_control.specs.Continuation.{place_of}
use Rattle.lio_task_control.proofs.continuation.Continuation.environment.Goals as goal

pub returns : goal.returns
unfolding place_of
returns c = λ lines. refl
