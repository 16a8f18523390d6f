use Rattle.std.proofs.Common.{subst}
use Rattle.lio_events_reading.specs.Lines.{IsActorOf}
use Rattle.lio_events_reading.proofs.LineLemmas.{finds_actor}
use Rattle.lio_events_reading.proofs.entry.actor_of.Goals as goal

pub returns : goal.returns
returns c =
    subst (λ bytes. IsActorOf bytes c.number.result) c.new-text.ensures
    (finds_actor c.new-text.result c.word.result.now c.word.new.self c.skip.new.self c.number.result c.number.new.text c.word.ensures.finds c.skip.ensures.left c.number.ensures.finds)
