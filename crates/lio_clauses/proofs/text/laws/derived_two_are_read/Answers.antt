use Rattle.lio_clauses.proofs.GrammarLemmas.{derived_two_are_read}
use Rattle.lio_clauses.proofs.text.laws.derived_two_are_read.Goals as goal

pub returns : goal.returns
returns c = derived_two_are_read
