use Rattle.std.proofs.Common.{◌∙◌, ap, sym}
use Rattle.lio_cells.specs.declared.wish.Wish.TheVariants as wish
use Rattle.lio_task.specs.Status.{status_at, waiting}
use Rattle.lio_task.proofs.status.status_at.Goals as goal

pub returns-in-Take : goal.returns-in-Take
returns-in-Take c = c.waiting.ensures ∙ ap (λ handle. waiting handle wish.Take) c.variable.ensures ∙ ap (status_at c.args.environment.now) (sym c.in-Take.is)
