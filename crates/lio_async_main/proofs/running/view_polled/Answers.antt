use Rattle.std.proofs.Common.{◌≡◌, ◌∙◌, ap}
use Rattle.std.specs.Option.{option_map}
use Rattle.lio_labels.specs.declared.label.Label.{Label}
use Rattle.lio_events.specs.Views.{view}
use Rattle.lio_calculus.specs.Run.{Ran}
use Rattle.lio_start.specs.Job.{first_of}
use Rattle.lio_rounds.specs.MachineParts.{machine_of}
use Rattle.lio_rounds.specs.MachineState.{MachineState}
use Rattle.lio_rounds.specs.Runs.{ran_of}
use Rattle.lio_async_rounds.specs.Laws.{IsFreshStream}
use Rattle.lio_async_main.proofs.ViewLemmas.{tried-view, view-rising}
use Rattle.lio_async_main.proofs.running.view_polled.Goals as goal

pub of-requires : goal.of-requires
of-requires g c =
    let job = c.args.job.now in
    let machine : MachineState = machine_of c.in_ok-machine.machine in
    let ran : Ran = ran_of job.script c.args.ran.now in
    let stream = c.new-stream.result in
    let entries = c.in_ok-entries-in-Ok.field-0 in
    let fresh : IsFreshStream stream machine =
    record { there = ap (option_map machine_of) c.new-stream.ensures.machine; fresh = c.in_ok-machine.ensures.fresh; next = c.new-stream.ensures.next; given = c.new-stream.ensures.given } in
    let gave = rw (c.in_ok-entries-in-Ok.was, c.try_collect.ensures.0, c.try_collect.ensures.1) at c.in-Ok.ensures in
    let seen : entries.items ≡ view c.args.observer.now 0 ran.entries =
    tried-view (first_of job) stream machine ran entries fresh c.in_ok-machine.ensures.first c.requires gave
    ∙ ap (λ (o : Label). view o 0 ran.entries) (c.new-stream.ensures.observer ∙ c.in_ok-copy.ensures.ok) in
    view-rising c.args.observer.now ran.entries entries.items seen

pub returns-in_ok-entries-in-Ok : goal.returns-in_ok-entries-in-Ok
returns-in_ok-entries-in-Ok g c =
    let job = c.args.job.now in
    let machine : MachineState = machine_of c.in_ok-machine.machine in
    let ran : Ran = ran_of job.script c.args.ran.now in
    let stream = c.new-stream.result in
    let entries = c.in_ok-entries-in-Ok.field-0 in
    let fresh : IsFreshStream stream machine =
    record { there = ap (option_map machine_of) c.new-stream.ensures.machine; fresh = c.in_ok-machine.ensures.fresh; next = c.new-stream.ensures.next; given = c.new-stream.ensures.given } in
    let gave = rw (c.in_ok-entries-in-Ok.was, c.try_collect.ensures.0, c.try_collect.ensures.1) at c.in-Ok.ensures in
    c.of.ensures
    ∙ tried-view (first_of job) stream machine ran entries fresh c.in_ok-machine.ensures.first c.requires gave
    ∙ ap (λ (o : Label). view o 0 ran.entries) (c.new-stream.ensures.observer ∙ c.in_ok-copy.ensures.ok)
