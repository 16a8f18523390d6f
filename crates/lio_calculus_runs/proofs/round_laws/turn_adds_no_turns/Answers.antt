use Rattle.lio_calculus_runs.proofs.TurnsLost.{turn_adds_no_turns}
use Rattle.lio_calculus_runs.proofs.round_laws.turn_adds_no_turns.Goals as goal

pub returns : goal.returns
returns c = turn_adds_no_turns
