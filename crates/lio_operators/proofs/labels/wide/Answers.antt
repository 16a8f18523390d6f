use Rattle.std.proofs.Common.{refl}
use Rattle.lio_operators.proofs.labels.wide.Goals as goal

pub returns : goal.returns
returns c = rw (c.in_ok-left.ensures.ok, c.in_ok-right.ensures.ok) refl
