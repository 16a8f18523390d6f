use Rattle.std.proofs.Common.{All, subst}
use Rattle.lio_events_reading.specs.Fits.{ValueFits}
use Rattle.lio_events_reading.proofs.fits.birth_fits.Goals as goal

pub returns : goal.returns
returns c = record {
  proc_at = c.number_fits.ensures;
  result = c.label_is_canonical.ensures;
  clearance = c.label_is_canonical-2.ensures;
  turns = c.number_fits-2.ensures;
  first = c.number_fits-3.ensures;
  cells = c.number_fits-4.ensures;
  args = subst (All ValueFits) c.as_slice.ensures c.values_fit.ensures;
}
