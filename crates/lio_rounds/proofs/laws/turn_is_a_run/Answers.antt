use Rattle.lio_rounds.proofs.MachineRuns.{has_run-one}
use Rattle.lio_rounds.proofs.laws.turn_is_a_run.Goals as goal

pub returns : goal.returns
returns c = has_run-one
