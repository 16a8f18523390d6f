use Rattle.lio_calculus.specs.Laws.{IsShownContent}
use Rattle.lio_audit.proofs.AllLemmas.{all-next, all-passed}
use Rattle.lio_audit.proofs.view.are_shown.Goals as goal

pub loop-content-preserved : goal.loop-content-preserved
loop-content-preserved c =
    all-next IsShownContent c.args.contents.now c.loop-content.content-index c.content-item.result c.loop-content-test.true c.content-item.is (c.is_shown.ensures.yes c.if-not-is_shown.false) c.loop-content.invariant

pub returns-clause-yes : goal.returns-clause-yes
returns-clause-yes c = λ shown. all-passed IsShownContent c.args.contents.now c.loop-content.content-index c.loop-content-test.false c.loop-content.invariant
