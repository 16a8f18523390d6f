use Rattle.lio_events_reading.proofs.ActLemmas.{exposure}
use Rattle.lio_events_reading.proofs.acts.exposure_behind.Goals as goal

pub returns-clause-finds : goal.returns-clause-finds
returns-clause-finds c = rw (c.in_ok-source-2.ensures, c.in_ok-target.ensures)
    (exposure c.args.names.now c.args.text.now c.in_ok-source.source c.in_ok-source.target c.two_labels.new.text c.in_ok-power.power c.power.new.text c.in_ok-content.content c.blank_content.new.text
    c.in_ok-source.ensures.finds c.in_ok-power.ensures.finds c.in_ok-content.ensures.finds)
