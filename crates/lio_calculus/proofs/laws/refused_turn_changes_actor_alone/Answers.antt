use Rattle.lio_calculus.proofs.LocalityLemmas.{refused_turn_changes_actor_alone}
use Rattle.lio_calculus.proofs.laws.refused_turn_changes_actor_alone.Goals as goal

pub returns : goal.returns
returns c = refused_turn_changes_actor_alone
