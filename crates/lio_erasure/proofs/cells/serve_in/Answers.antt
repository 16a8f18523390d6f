use Rattle.std.proofs.Common.{refl, ap, subst, IsTrue, Option}
use Rattle.lio_cells.specs.Node.{NodeState}
use Rattle.lio_task.specs.declared.config.Holder.{Holder}
use Rattle.lio_erasure.specs.Low.{is_kept}
use Rattle.lio_erasure.proofs.KeptLemmas.{served-kept}
use Rattle.lio_erasure.proofs.cells.serve_in.Goals as goal

pub returns-clause-kept : goal.returns-clause-kept
returns-clause-kept c = λ kept.
    let holder = c.in-Some.holder in
    served-kept holder (record { node = c.renew.new.self; task = holder.task }) c.args.act.now refl (ap (λ (node : NodeState). node.state) c.renew.ensures) (subst (λ (place : Option Holder). IsTrue (is_kept place)) c.in-Some.is kept)
