use Rattle.lio_rounds.proofs.MachineRuns.{has_run-append}
use Rattle.lio_rounds.proofs.laws.runs_go_on.Goals as goal

pub returns : goal.returns
returns c = has_run-append
