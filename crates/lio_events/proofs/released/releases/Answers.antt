use Rattle.std.proofs.Common.{◌∙◌, ap}
use Rattle.lio_events.specs.Views as spec
use Rattle.lio_events.proofs.ViewLemmas.{releases-end, releases-next}
use Rattle.lio_events.proofs.released.releases.Goals as goal

pub loop-entry-preserved : goal.loop-entry-preserved
loop-entry-preserved c =
    releases-next c.args.observer.now c.loop-entry.entry-index c.entries-entry-items.result.now c.loop-entry.contents c.append_released.new.contents (spec.releases c.args.observer.now c.entries-entry-items.result.now)
    c.entry-item.result c.loop-entry-test.true c.entry-item.is c.in_ok-append_released.ensures c.loop-entry.invariant

pub returns : goal.returns
returns c =
    releases-end c.args.observer.now c.loop-entry.entry-index c.entries-entry-items.result.now c.loop-entry.contents (spec.releases c.args.observer.now c.entries-entry-items.result.now) c.loop-entry-test.false c.loop-entry.invariant
    ∙ ap (spec.releases c.args.observer.now) c.entries-entry-items.ensures.entries
