use Rattle.std.proofs.Common.{◌∙◌, sym, subst, arith}
use Rattle.lio_task_control.specs.Bound.{AreInOrder}
use Rattle.lio_task_control.proofs.OrderLemmas.{found_at}
use Rattle.lio_task_control.proofs.environment.Environment.place_of.Goals as goal

pub returns-then-is : goal.returns-then-is
returns-then-is c =
    found_at _ _ c.args.name.now _ c.index.result.now c.self.view_is (subst AreInOrder c.self.view_is c.self.invariant) (omega (arith, c.if-rank-len.true, c.len.ensures)) c.index.ensures
    (sym c.is.ensures ∙ c.if-is.true)
