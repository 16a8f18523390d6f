-- The steps of control in one set, for the function that takes them.
use Rattle.lio_task.proofs.StepLemmas.{enter_on, other_on, leave_on}

pub ruleset on = (enter_on, other_on, leave_on)
