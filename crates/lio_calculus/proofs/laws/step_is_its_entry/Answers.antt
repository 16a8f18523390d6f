use Rattle.lio_calculus.proofs.EffectLemmas.{step_is_its_entry}
use Rattle.lio_calculus.proofs.laws.step_is_its_entry.Goals as goal

pub returns : goal.returns
returns c = step_is_its_entry
