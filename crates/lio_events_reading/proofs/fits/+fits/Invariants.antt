use Rattle.std.proofs.Common.{◌+◌, ◌*◌, All, take}
use Rattle.lio_values.specs.Forest.{tree_height, problem_height, inner_height, item_height, forest_height}
use Rattle.lio_values.specs.Views.{tree_of, problem_of, inner_of, item_of}
use Rattle.lio_events_reading.specs.Fits.{ValueFits}
use Rattle.lio_events_reading.proofs.fits.+fits.Given as goal

abbrev pub decreases-plain_fits : goal.decreases-plain_fits
decreases-plain_fits l = 6 * tree_height (tree_of l.plain.now)

abbrev pub decreases-kind_fits : goal.decreases-kind_fits
decreases-kind_fits l = 6 * problem_height (problem_of l.kind.now) + 1

abbrev pub decreases-fault_fits : goal.decreases-fault_fits
decreases-fault_fits l = 6 * problem_height (problem_of l.fault.now.kind) + 2

abbrev pub decreases-content_fits : goal.decreases-content_fits
decreases-content_fits l = 6 * inner_height (inner_of l.content.now) + 3

abbrev pub decreases-value_fits : goal.decreases-value_fits
decreases-value_fits l = 6 * item_height (item_of l.value.now) + 4

abbrev pub decreases-items_fit : goal.decreases-items_fit
decreases-items_fit l = 6 * forest_height l.items.now + 5

-- the items so far fit
abbrev pub invariant-items_fit-loop-value : goal.invariant-items_fit-loop-value
invariant-items_fit-loop-value l = All ValueFits (take l.value-index l.value-items)
