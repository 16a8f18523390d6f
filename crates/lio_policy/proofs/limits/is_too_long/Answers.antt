use Rattle.std.proofs.Common.{ap, length}
use Rattle.std.specs.Prelude.{nat_lt}
use Rattle.lio_policy.proofs.limits.is_too_long.Goals as goal

pub returns-in-Bytes : goal.returns-in-Bytes
returns-in-Bytes c = rw c.in-Bytes.is (ap (λ text. nat_lt c.args.longest (length text)) c.bytes.ensures)
