use Rattle.std.proofs.Common.{◌∙◌, sym, ap, false, not, Option, []}
use Rattle.std.specs.Option.{option_map, option_map_or}
use Rattle.lio_calculus.specs.Task.{TaskState}
use Rattle.lio_task.specs.declared.task.Task.{Task}
use Rattle.lio_task.specs.StateOf.{state_in}
use Rattle.lio_ask_main.proofs.troubles.is_waiting.Goals as goal

pub returns-in-Some : goal.returns-in-Some
returns-in-Some c = λ script.
    ap not (c.has_ended.ensures []) ∙ sym (ap (λ (task : Option Task). option_map_or (λ (state : TaskState). not state.ended) (option_map (state_in script) task) false) c.in-Some.is)
