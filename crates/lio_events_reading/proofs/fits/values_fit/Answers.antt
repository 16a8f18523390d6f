use Rattle.lio_events_reading.specs.Fits.{ValueFits}
use Rattle.lio_events_reading.proofs.AllLemmas.{all-next, all-passed}
use Rattle.lio_events_reading.proofs.fits.values_fit.Goals as goal

pub loop-value-preserved : goal.loop-value-preserved
loop-value-preserved c = all-next ValueFits c.args.values.now c.loop-value.value-index c.value-item.result c.loop-value-test.true c.value-item.is c.value_fits.ensures c.loop-value.invariant

pub returns : goal.returns
returns c = all-passed ValueFits c.args.values.now c.loop-value.value-index c.loop-value-test.false c.loop-value.invariant
