use Rattle.std.proofs.Common.{All, take}
use Rattle.lio_events_reading.specs.Fits.{ValueFits}
use Rattle.lio_events_reading.proofs.fits.values_fit.Given as goal

-- the values so far fit
abbrev pub invariant-loop-value : goal.invariant-loop-value
invariant-loop-value l = All ValueFits (take l.value-index l.values)
