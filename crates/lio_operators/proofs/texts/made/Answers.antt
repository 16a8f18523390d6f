use Rattle.std.proofs.Common.{length, refl}
use Rattle.std.proofs.lemmas.Bool.{lt-leb}
use Rattle.lio_operators.proofs.texts.made.Goals as goal

pub returns-then-text-longest : goal.returns-then-text-longest
returns-then-text-longest c = rw (lt-leb (length c.args.text.now) c.args.longest c.if-text-longest.true) refl
