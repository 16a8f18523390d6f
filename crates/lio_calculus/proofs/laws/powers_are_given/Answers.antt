use Rattle.lio_calculus.proofs.PowerLemmas.{powers_are_given}
use Rattle.lio_calculus.proofs.laws.powers_are_given.Goals as goal

pub returns : goal.returns
returns c = powers_are_given
