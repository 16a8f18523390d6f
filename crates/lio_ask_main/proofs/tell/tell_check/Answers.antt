use Rattle.std.proofs.Common.{refl}
use Rattle.lio_ask_main.proofs.tell.tell_check.Goals as goal

pub returns-clause-ok : goal.returns-clause-ok
returns-clause-ok g c = ((c.in_ok-front.front, c.in_ok-front.ensures.ok), c.in_ok-text.ensures, refl)
