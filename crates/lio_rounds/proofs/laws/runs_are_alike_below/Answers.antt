use Rattle.lio_rounds.proofs.FlowLemmas.{runs_are_alike_below}
use Rattle.lio_rounds.proofs.laws.runs_are_alike_below.Goals as goal

pub returns : goal.returns
returns c = runs_are_alike_below
