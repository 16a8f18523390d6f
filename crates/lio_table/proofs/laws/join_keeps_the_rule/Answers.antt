use Rattle.lio_table.proofs.CutsKept.{join-kept}
use Rattle.lio_table.proofs.laws.join_keeps_the_rule.Goals as goal

pub returns : goal.returns
returns c = join-kept
