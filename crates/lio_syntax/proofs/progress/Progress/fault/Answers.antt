use Rattle.std.proofs.Common.{refl}
use Rattle.lio_syntax.proofs.progress.Progress.fault.Goals as goal

pub returns : goal.returns
returns c = refl
