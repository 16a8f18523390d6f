use Rattle.lio_table.proofs.CutsKept.{split-kept}
use Rattle.lio_table.proofs.laws.split_keeps_the_rule.Goals as goal

pub returns : goal.returns
returns c = split-kept
