use Rattle.lio_calculus_runs.proofs.WellFormedTurns.{run_keeps_well_formed}
use Rattle.lio_calculus_runs.proofs.round_laws.run_keeps_well_formed.Goals as goal

pub returns : goal.returns
returns c = run_keeps_well_formed
