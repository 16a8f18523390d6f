use Rattle.std.proofs.Common.{refl}
use Rattle.lio_syntax.proofs.ProgressLemmas.{stands-blank}
use Rattle.lio_syntax.proofs.progress.Progress.skip.Goals as goal

pub returns-clause-step : goal.returns-clause-step
returns-clause-step c = λ before stands. stands-blank _ _ before stands refl refl refl refl refl
