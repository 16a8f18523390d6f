use Rattle.std.specs.Prelude.{IfOk}
use Rattle.std.proofs.Common.{◌≡◌, ◌+◌, subst}
use Rattle.lio_labels.specs.declared.label.Label.{Label}
use Rattle.lio_values.specs.declared.act.Birth.{Birth}
use Rattle.lio_calculus.specs.Plan.{birth_of}
use Rattle.lio_task_plan.proofs.births.birth.Goals as goal

pub returns : goal.returns
returns c =
    let born = λ (result : Label) (clearance : Label). IfOk c.new.result (λ (birth : Birth). birth ≡ birth_of c.args.number c.args.values result clearance c.args.turns (c.args.task.now.first + 1) c.args.cells) in
    subst (λ (l : Label). born l c.args.label.now) (rw c.in_ok-result.ensures.first at c.copy.ensures.ok)
    (subst (born c.in_ok-result.result) (rw c.in_ok-result.ensures.second at c.copy-2.ensures.ok) c.new.ensures)
