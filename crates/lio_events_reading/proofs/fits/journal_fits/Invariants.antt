use Rattle.std.proofs.Common.{All, take}
use Rattle.lio_events_reading.specs.Fits.{EntryFits}
use Rattle.lio_events_reading.proofs.fits.journal_fits.Given as goal

-- the entries so far fit
abbrev pub invariant-loop-entry : goal.invariant-loop-entry
invariant-loop-entry l = All EntryFits (take l.entry-index l.entry-items)
