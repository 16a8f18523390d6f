use Rattle.std.proofs.Common.{refl}
use Rattle.lio_guards.proofs.class.Class.of.Goals as goal

pub returns-in-Read : goal.returns-in-Read
returns-in-Read c = rw c.in-Read.is refl

pub returns-in-Wait : goal.returns-in-Wait
returns-in-Wait c = rw c.in-Wait.is refl
