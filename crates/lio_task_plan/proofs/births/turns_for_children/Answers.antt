use Rattle.lio_task_plan.proofs.births.turns_for_children.Goals as goal

pub returns : goal.returns
returns c = c.saturating_sub.ensures
