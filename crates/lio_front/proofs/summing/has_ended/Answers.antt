use Rattle.std.proofs.Common.{◌∙◌, sym, ap, false, Option, []}
use Rattle.std.specs.Option.{option_map, option_map_or}
use Rattle.lio_calculus.specs.Task.{TaskState}
use Rattle.lio_task.specs.declared.task.Task.{Task}
use Rattle.lio_task.specs.StateOf.{state_in}
use Rattle.lio_front.proofs.summing.has_ended.Goals as goal

pub returns-in-Some : goal.returns-in-Some
returns-in-Some c = λ script.
    c.has_ended.ensures [] ∙ sym (ap (λ (task : Option Task). option_map_or (λ (state : TaskState). state.ended) (option_map (state_in script) task) false) c.in-Some.is)
