use Rattle.lio_rounds.proofs.InputLemmas.{other_inputs_change_nothing}
use Rattle.lio_rounds.proofs.laws.other_inputs_change_nothing.Goals as goal

pub returns : goal.returns
returns c = other_inputs_change_nothing
