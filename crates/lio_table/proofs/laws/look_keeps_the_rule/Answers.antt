use Rattle.lio_table.proofs.MomentLemmas.{look-kept}
use Rattle.lio_table.proofs.laws.look_keeps_the_rule.Goals as goal

pub returns : goal.returns
returns c = look-kept
