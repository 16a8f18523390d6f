use Rattle.lio_calculus.proofs.StepGuarded.{turn-guarded}
use Rattle.lio_calculus.proofs.laws.turn_is_guarded.Goals as goal

pub returns : goal.returns
returns c = turn-guarded
