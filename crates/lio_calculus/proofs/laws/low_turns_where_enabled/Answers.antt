use Rattle.lio_calculus.proofs.EnabledLemmas.{low_turns_where_enabled}
use Rattle.lio_calculus.proofs.laws.low_turns_where_enabled.Goals as goal

pub returns : goal.returns
returns c = low_turns_where_enabled
