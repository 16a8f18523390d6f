use Rattle.std.proofs.Common.{subst, All}
use Rattle.lio_events_reading.specs.Fits.{EntryFits}
use Rattle.lio_events_reading.proofs.AllLemmas.{all-next, all-passed}
use Rattle.lio_events_reading.proofs.fits.journal_fits.Goals as goal

pub loop-entry-preserved : goal.loop-entry-preserved
loop-entry-preserved c = all-next EntryFits c.entries-entry-items.result.now c.loop-entry.entry-index c.entry-item.result c.loop-entry-test.true c.entry-item.is c.entry_fits.ensures c.loop-entry.invariant

pub returns : goal.returns
returns c = subst (All EntryFits) c.entries-entry-items.ensures.entries (all-passed EntryFits c.entries-entry-items.result.now c.loop-entry.entry-index c.loop-entry-test.false c.loop-entry.invariant)
