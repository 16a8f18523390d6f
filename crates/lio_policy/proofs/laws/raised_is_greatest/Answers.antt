use Rattle.lio_policy.proofs.FlowLemmas.{raised_is_greatest}
use Rattle.lio_policy.proofs.laws.raised_is_greatest.Goals as goal

pub returns : goal.returns
returns c = raised_is_greatest
