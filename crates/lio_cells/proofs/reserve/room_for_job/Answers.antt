use Rattle.std.proofs.Common.{◌∙◌, sym, refl}
use Rattle.lio_cells.proofs.reserve.room_for_job.Goals as goal

pub returns-in_ok-copy : goal.returns-in_ok-copy
returns-in_ok-copy c = rw (sym c.is_absent.ensures ∙ c.if-is_absent.true, c.in_ok-copy.ensures.ok) refl
