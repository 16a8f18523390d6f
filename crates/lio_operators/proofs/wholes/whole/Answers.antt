use Rattle.std.proofs.Common.{refl}
use Rattle.lio_operators.proofs.wholes.whole.Goals as goal

pub returns-in-None : goal.returns-in-None
returns-in-None c = rw c.in-None.is refl
