use Rattle.lio_calculus.proofs.PurityLemmas.{sound_is_pure}
use Rattle.lio_calculus.proofs.laws.sound_is_pure.Goals as goal

pub returns : goal.returns
returns c = sound_is_pure
