use Rattle.lio_events.proofs.ViewLaws.{view_is_printable}
use Rattle.lio_events.proofs.laws.view_is_printable.Goals as goal

pub returns : goal.returns
returns c = view_is_printable
