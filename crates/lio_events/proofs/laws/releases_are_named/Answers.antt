use Rattle.lio_events.proofs.ViewLaws.{releases_are_named}
use Rattle.lio_events.proofs.laws.releases_are_named.Goals as goal

pub returns : goal.returns
returns c = releases_are_named
