use Rattle.std.proofs.Common.{◌∙◌, sym, ap, Option, false, []}
use Rattle.std.specs.Option.{option_map, option_map_or}
use Rattle.lio_labels.specs.declared.label.Label.{Label}
use Rattle.lio_labels.specs.Flow.{flows}
use Rattle.lio_cells.specs.declared.state.State.{State}
use Rattle.lio_cells.specs.State.{label_of}
use Rattle.lio_calculus.specs.Step.{Cell}
use Rattle.lio_calculus.specs.Erased.{sees}
use Rattle.lio_task.specs.declared.task.Task.{Task}
use Rattle.lio_task.specs.StateOf.{state_in}
use Rattle.lio_erasure.proofs.hidden.is_seen.Goals as goal

pub returns-in-Some : goal.returns-in-Some
returns-in-Some c = λ script.
    let observer = c.args.observer.now in
    c.flows.ensures.test ∙ ap (λ (label : Label). flows label observer) (c.label.ensures [])
    ∙ sym (ap (λ (task : Option Task). let cell : Cell = record { state = c.args.holder.now.node.state; task = option_map (state_in script) task } in sees observer cell) c.in-Some.is)

pub returns-in-None : goal.returns-in-None
returns-in-None c = λ script.
    let observer = c.args.observer.now in
    c.is_below.ensures ∙ ap (λ (state : State). option_map_or (λ (label : Label). flows label observer) (label_of state) false) c.state.ensures.state
    ∙ sym (ap (λ (task : Option Task). let cell : Cell = record { state = c.args.holder.now.node.state; task = option_map (state_in script) task } in sees observer cell) c.in-None.is)
