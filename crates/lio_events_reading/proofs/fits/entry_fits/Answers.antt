use Rattle.lio_events_reading.proofs.fits.entry_fits.Goals as goal

pub returns : goal.returns
returns c = record {
  ticket = c.count_fits.ensures;
  actor = c.number_fits.ensures;
  target = c.target_fits.ensures;
  at = c.label_is_canonical.ensures;
  act = c.act_fits.ensures;
  reply = c.reply_fits.ensures;
}
