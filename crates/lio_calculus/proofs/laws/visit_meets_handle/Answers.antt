use Rattle.lio_calculus.proofs.HandleLemmas.{visit_meets_handle}
use Rattle.lio_calculus.proofs.laws.visit_meets_handle.Goals as goal

pub returns : goal.returns
returns c = visit_meets_handle
