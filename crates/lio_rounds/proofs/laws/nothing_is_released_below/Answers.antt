use Rattle.lio_rounds.proofs.FlowLemmas.{nothing_is_released_below}
use Rattle.lio_rounds.proofs.laws.nothing_is_released_below.Goals as goal

pub returns : goal.returns
returns c = nothing_is_released_below
