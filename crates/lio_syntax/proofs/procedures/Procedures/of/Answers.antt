use Rattle.std.proofs.Common.{sym, subst, ◌∙◌}
use Rattle.lio_syntax.specs.Procedures.{Holds}
use Rattle.lio_syntax.proofs.BeginningLemmas.{beginnings-end, going-more}
use Rattle.lio_syntax.proofs.procedures.Procedures.of.Goals as goal

pub loop-at-preserved : goal.loop-at-preserved
loop-at-preserved c = going-more c.loop-at.procedures _ c.args.lines.now c.loop-at.at c.index-lines-at.result c.loop-at-test.true c.index-lines-at.is c.loop-at.invariant c.in_ok-pass.ensures

pub returns : goal.returns
returns c = subst (Holds c.loop-at.procedures) (sym (beginnings-end c.loop-at.at c.args.lines.now c.loop-at.invariant.0 c.loop-at-test.false) ∙ c.loop-at.invariant.2) c.loop-at.invariant.1
