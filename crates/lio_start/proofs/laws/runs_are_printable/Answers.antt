use Rattle.lio_start.proofs.NameLemmas.{runs_are_printable}
use Rattle.lio_start.proofs.laws.runs_are_printable.Goals as goal

pub returns : goal.returns
returns c = runs_are_printable
