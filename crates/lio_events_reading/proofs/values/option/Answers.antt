use Rattle.std.proofs.Common.{◌≡◌, ◌∙◌, ap, sym}
use Rattle.lio_events_reading.specs.declared.start.Start.TheVariants as start
use Rattle.lio_events_reading.specs.Start.{start_of}
use Rattle.lio_events_reading.proofs.ValueLemmas.{finds_empty}
use Rattle.lio_events_reading.proofs.values.option.Goals as goal

pub returns-in-Empty-clause-finds : goal.returns-in-Empty-clause-finds
returns-in-Empty-clause-finds c =
    let begins : start_of c.args.text.now ≡ start.Empty = ap start_of (sym c.rest.ensures) ∙ sym c.in-Empty.ensures in
    finds_empty c.args.names.now c.args.text.now c.skip.new.self begins c.skip.ensures.left
