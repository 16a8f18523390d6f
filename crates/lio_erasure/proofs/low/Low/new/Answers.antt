use Rattle.std.proofs.Common.{refl}
use Rattle.lio_erasure.specs.Low.{low_configuration_of}
use Rattle.lio_erasure.proofs.JobLemmas.{sound-erased}
use Rattle.lio_erasure.proofs.low.Low.new.Goals as goal

pub invariant_of-result : goal.invariant_of-result
invariant_of-result c = (sound-erased c.args.observer (low_configuration_of c.args.script c.args.longest c.args.config) c.requires.seen, c.requires.kept)

pub returns : goal.returns
returns c = refl
