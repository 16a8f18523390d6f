use Rattle.lio_task.proofs.PartLemmas.{step_is_made_of_parts}
use Rattle.lio_task.proofs.laws.step_is_made_of_parts.Goals as goal

pub returns : goal.returns
returns c = step_is_made_of_parts
