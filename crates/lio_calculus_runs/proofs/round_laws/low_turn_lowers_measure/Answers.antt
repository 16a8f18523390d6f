use Rattle.lio_calculus_runs.proofs.LowMeasure.{low_turn_lowers_measure}
use Rattle.lio_calculus_runs.proofs.round_laws.low_turn_lowers_measure.Goals as goal

pub returns : goal.returns
returns c = low_turn_lowers_measure
