use Rattle.std.proofs.Common.{refl}
use Rattle.lio_syntax_lines.proofs.words.after.Goals as goal

pub returns-in-Escaped-default : goal.returns-in-Escaped-default
returns-in-Escaped-default c = rw c.in-Escaped-default.is-0 refl
