use Rattle.lio_table.proofs.ClaimKept.{claim-kept}
use Rattle.lio_table.proofs.laws.claim_keeps_the_rule.Goals as goal

pub returns : goal.returns
returns c = claim-kept
