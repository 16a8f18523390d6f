use Rattle.lio_table.proofs.GiveKept.{give-kept}
use Rattle.lio_table.proofs.laws.give_keeps_the_rule.Goals as goal

pub returns : goal.returns
returns c = give-kept
