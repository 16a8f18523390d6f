use Rattle.std.proofs.Common.{◌∙◌, sym}
use Rattle.lio_policy.proofs.RuleLemmas.{no_labels}
use Rattle.lio_policy.proofs.labels.labelled_task.Goals as goal

pub returns-in_default : goal.returns-in_default
returns-in_default c = no_labels c.args.names.now c.args.task.now (sym c.in_default.is ∙ c.in_ok-label.ensures)
