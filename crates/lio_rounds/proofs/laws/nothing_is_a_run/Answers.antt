use Rattle.lio_rounds.proofs.MachineRuns.{has_run-nothing}
use Rattle.lio_rounds.proofs.laws.nothing_is_a_run.Goals as goal

pub returns : goal.returns
returns c = has_run-nothing
