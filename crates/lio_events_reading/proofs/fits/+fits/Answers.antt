use Rattle.std.proofs.Common.{◌<◌, arith, subst, All}
use Rattle.lio_values.specs.Forest.{item_depth}
use Rattle.lio_values.specs.Views.{item_of}
use Rattle.lio_events_reading.specs.Fits.{ValueFits}
use Rattle.lio_events_reading.proofs.AllLemmas.{all-next, all-passed}
use Rattle.lio_events_reading.proofs.ItemLemmas.{items_fit, items_shallow, item_lower}
use Rattle.lio_events_reading.proofs.fits.+fits.Goals as goal

pub items_fit-loop-value-preserved : goal.items_fit-loop-value-preserved
items_fit-loop-value-preserved t c =
    all-next ValueFits c.as_slice-value-items.result.now c.loop-value.value-index c.value-item.result c.loop-value-test.true c.value-item.is c.value_fits.ensures c.loop-value.invariant

pub items_fit-returns-clause-deep : goal.items_fit-returns-clause-deep
items_fit-returns-clause-deep t c =
    items_shallow c.args.items.now (subst (All (λ value. item_depth (item_of value) < 8)) c.as_slice-value-items.ensures.items c.as_slice-value-items.ensures.shallow)

pub items_fit-returns-clause-fit : goal.items_fit-returns-clause-fit
items_fit-returns-clause-fit t c =
    items_fit c.args.items.now
    (subst (All ValueFits) c.as_slice-value-items.ensures.items (all-passed ValueFits c.as_slice-value-items.result.now c.loop-value.value-index c.loop-value-test.false c.loop-value.invariant))

pub items_fit-value_fits-requires : goal.items_fit-value_fits-requires
items_fit-value_fits-requires t c =
    let lower = item_lower c.args.items.now c.as_slice-value-items.result.now c.loop-value.value-index c.value-item.result c.as_slice-value-items.ensures.items c.loop-value-test.true c.value-item.is in
    omega (arith, c.decreases, lower)
