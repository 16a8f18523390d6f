use Rattle.lio_calculus_runs.proofs.WellFormedTurns.{turn_keeps_well_formed}
use Rattle.lio_calculus_runs.proofs.round_laws.turn_keeps_well_formed.Goals as goal

pub returns : goal.returns
returns c = turn_keeps_well_formed
