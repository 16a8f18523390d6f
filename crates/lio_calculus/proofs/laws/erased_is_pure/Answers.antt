use Rattle.lio_calculus.proofs.PurityLemmas.{erased_is_pure}
use Rattle.lio_calculus.proofs.laws.erased_is_pure.Goals as goal

pub returns : goal.returns
returns c = erased_is_pure
