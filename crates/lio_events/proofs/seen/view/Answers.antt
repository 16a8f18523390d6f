use Rattle.std.proofs.Common.{◌∙◌, ap}
use Rattle.lio_events.specs.Views as spec
use Rattle.lio_events.proofs.ViewLemmas.{view-end, view-next}
use Rattle.lio_events.proofs.seen.view.Goals as goal

pub loop-entry-preserved : goal.loop-entry-preserved
loop-entry-preserved c = record {
  whole = view-next c.args.observer.now c.loop-entry.entry-index c.entries-entry-items.result.now c.loop-entry.view c.append_seen.new.view (spec.view c.args.observer.now 0 c.entries-entry-items.result.now)
      c.entry-item.result c.loop-entry-test.true c.entry-item.is c.in_ok-append_seen.ensures.view c.loop-entry.invariant.whole;
  below = c.in_ok-append_seen.ensures.below;
}

pub returns : goal.returns
returns c =
    view-end c.args.observer.now c.loop-entry.entry-index c.entries-entry-items.result.now c.loop-entry.view (spec.view c.args.observer.now 0 c.entries-entry-items.result.now) c.loop-entry-test.false c.loop-entry.invariant.whole
    ∙ ap (spec.view c.args.observer.now 0) c.entries-entry-items.ensures.entries
