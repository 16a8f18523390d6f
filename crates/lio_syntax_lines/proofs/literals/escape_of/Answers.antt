use Rattle.std.proofs.Common.{refl}
use Rattle.lio_syntax_lines.proofs.literals.escape_of.Goals as goal

pub returns-in-110 : goal.returns-in-110
returns-in-110 c = rw c.in-110.is refl
