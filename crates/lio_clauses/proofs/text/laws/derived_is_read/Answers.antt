use Rattle.lio_clauses.proofs.GrammarLemmas.{derived_is_read}
use Rattle.lio_clauses.proofs.text.laws.derived_is_read.Goals as goal

pub returns : goal.returns
returns c = derived_is_read
