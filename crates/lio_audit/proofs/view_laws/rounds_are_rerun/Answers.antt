use Rattle.lio_audit.proofs.RunViewLemmas.{rounds_are_rerun}
use Rattle.lio_audit.proofs.view_laws.rounds_are_rerun.Goals as goal

pub returns : goal.returns
returns c = rounds_are_rerun
