use Rattle.lio_calculus.proofs.LocalRunLemmas.{local_entries_make_a_run}
use Rattle.lio_calculus.proofs.MergeLemmas.{logs_have_a_merge}
use Rattle.lio_calculus.proofs.log_laws.local_entries_make_a_run.Goals as goal

pub returns : goal.returns
returns c configuration logs count sound logged =
    let merge = logs_have_a_merge configuration logs count logged in
    (merge.0, merge.1, local_entries_make_a_run configuration logs count merge.0 sound logged merge.1)
