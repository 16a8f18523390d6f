use Rattle.lio_calculus_runs.proofs.MeasureLemmas.{turn_lowers_measure}
use Rattle.lio_calculus_runs.proofs.round_laws.turn_lowers_measure.Goals as goal

pub returns : goal.returns
returns c = turn_lowers_measure
