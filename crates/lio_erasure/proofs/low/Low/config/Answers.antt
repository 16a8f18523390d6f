use Rattle.std.proofs.Common.{ap}
use Rattle.lio_erasure.specs.Low.{low_configuration_of}
use Rattle.lio_erasure.specs.LowParts.{LowParts}
use Rattle.lio_erasure.proofs.low.Low.config.Goals as goal

pub returns-clause-cells : goal.returns-clause-cells
returns-clause-cells c = ap (λ (parts : LowParts). low_configuration_of c.args.self.now.script c.args.self.now.longest parts.holders) c.self.view_is

pub returns-clause-kept : goal.returns-clause-kept
returns-clause-kept c = c.self.invariant.1
