use Rattle.std.proofs.Common.{ap}
use Rattle.std.specs.Prelude.{not}
use Rattle.lio_policy.proofs.labels.is_above.Goals as goal

pub returns : goal.returns
returns c = ap not c.flows.ensures.test
