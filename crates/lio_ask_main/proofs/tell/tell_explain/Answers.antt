use Rattle.std.proofs.Common.{refl}
use Rattle.lio_ask_main.proofs.tell.tell_explain.Goals as goal

pub returns-clause-ok : goal.returns-clause-ok
returns-clause-ok g c = ((c.in_ok-read.read, c.in_ok-read.ensures.ok), refl)
