use Rattle.lio_clauses.proofs.WithoutLemmas.{without_is_canonical}
use Rattle.lio_clauses.proofs.laws.without_is_canonical.Goals as goal

pub returns : goal.returns
returns c = without_is_canonical
