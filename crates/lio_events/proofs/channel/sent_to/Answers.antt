use Rattle.std.proofs.Common.{◌≡◌}
use Rattle.std.proofs.lemmas.Bool.{eq-eqb}
use Rattle.lio_events.proofs.channel.sent_to.Goals as goal

pub returns-in-Some : goal.returns-in-Some
returns-in-Some c =
    let same : c.in-Some.target ≡ c.args.channel = (assumption) in
    rw (c.in-Some.is, eq-eqb _ _ same) c.sent.ensures
