use Rattle.std.proofs.Common.{ne_eqb, refl}
use Rattle.lio_syntax_lines.proofs.words.is_blank.Goals as goal

pub returns-else-byte-eq32 : goal.returns-else-byte-eq32
returns-else-byte-eq32 c = rw (ne_eqb c.args.byte 32 c.if-byte-eq32.false) refl
