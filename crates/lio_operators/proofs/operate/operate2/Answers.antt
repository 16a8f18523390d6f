-- What the operator gives on the two bare values is what it gives on the values.
use Rattle.lio_operators.proofs.operate.operate2.Goals as goal

pub returns-in-Bare-Bare : goal.returns-in-Bare-Bare
returns-in-Bare-Bare c = rw c.in-Bare-Bare.is-0 (rw c.in-Bare-Bare.is-1 c.operate_plains.ensures)
