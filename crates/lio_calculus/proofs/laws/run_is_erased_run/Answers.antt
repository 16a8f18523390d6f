use Rattle.lio_calculus.proofs.LawLemmas.{run_is_erased_run}
use Rattle.lio_calculus.proofs.laws.run_is_erased_run.Goals as goal

pub returns : goal.returns
returns c = run_is_erased_run
