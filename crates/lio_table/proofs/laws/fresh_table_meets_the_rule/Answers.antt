use Rattle.lio_table.proofs.Opening.{fresh-kept}
use Rattle.lio_table.proofs.laws.fresh_table_meets_the_rule.Goals as goal

pub returns : goal.returns
returns c = fresh-kept
