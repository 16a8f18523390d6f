use Rattle.lio_audit.proofs.RunViewLemmas.{complete_run_is_seen}
use Rattle.lio_audit.proofs.view_laws.complete_run_is_seen.Goals as goal

pub returns : goal.returns
returns c = complete_run_is_seen
