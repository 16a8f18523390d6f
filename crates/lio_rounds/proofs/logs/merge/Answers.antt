use Rattle.std.proofs.Common.{subst, sym}
use Rattle.lio_calculus.specs.Journals.{IsMerged}
use Rattle.lio_task.specs.Logs.{log_in}
use Rattle.lio_rounds.proofs.logs.merge.Goals as goal

pub of-requires : goal.of-requires
of-requires c = c.in_ok-entries.ensures.rising

pub returns : goal.returns
returns c = subst (IsMerged (log_in c.args.config.now)) (sym c.of.ensures) c.in_ok-entries.ensures
