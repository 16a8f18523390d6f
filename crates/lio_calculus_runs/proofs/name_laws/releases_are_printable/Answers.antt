use Rattle.lio_calculus_runs.proofs.ContentLemmas.{releases_are_printable}
use Rattle.lio_calculus_runs.proofs.name_laws.releases_are_printable.Goals as goal

pub returns : goal.returns
returns c = releases_are_printable
