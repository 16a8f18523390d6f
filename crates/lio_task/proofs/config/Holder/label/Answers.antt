use Rattle.std.proofs.Common.{◌≡◌, ◌∙◌, sym, ap, []}
use Rattle.std.proofs.lemmas.Result.{IfOk-weaker}
use Rattle.lio_labels.specs.declared.label.Label.{Label}
use Rattle.lio_task.specs.declared.task.Task.{Task}
use Rattle.lio_task.specs.Turns.{IsLabelOf}
use Rattle.lio_task.proofs.LentLemmas.{found-same}
use Rattle.lio_task.proofs.config.Holder.label.Goals as goal

pub returns : goal.returns
returns c =
    IfOk-weaker c.copy.result (λ (label : Label). label ≡ c.label.result.now) (IsLabelOf c.args.self.now)
    (λ label same task is. same ∙ c.label.ensures [] ∙ ap (λ (t : Task). t.label) (found-same (sym c.in-Some.is) is)) c.copy.ensures.ok
