use Rattle.std.proofs.Common.{◌≡◌, ◌<◌, ◌≤◌, sym, subst, arith, false, get_or, length}
use Rattle.lio_calculus.specs.Step.{Configuration, can}
use Rattle.lio_calculus_runs.proofs.OrderLaws.{order-short}
use Rattle.lio_task.specs.Configuration.{configuration_of}
use Rattle.lio_rounds.specs.MachineParts.{MachineParts, machine_of}
use Rattle.lio_rounds.proofs.machine.Machine.next_awake.Goals as goal

pub next-requires : goal.next-requires
next-requires c =
    let here : Configuration = configuration_of c.self.inside.script c.self.inside.config in
    let short = order-short here c.self.inside.order.items c.self.invariant.0.lists in
    let few : length here.cells < 2147483648 = c.self.invariant.0.well_formed.sound.few in
    let count : c.args.count ≤ length c.self.inside.order.items = subst (λ (m : MachineParts). c.args.count ≤ length (machine_of m).order) (sym c.self.view_is) c.requires in
    omega (arith, short, few, count)

pub returns-clause-still : goal.returns-clause-still
returns-clause-still c =
    λ place from before.
    let sleeps = c.self.invariant.1 place (c.next.ensures.asleep place from before) in
    subst (λ (m : MachineParts). (place < length (machine_of m).order) × (can (machine_of m).configuration (get_or (machine_of m).order place 0) ≡ false)) c.self.view_is
    (sleeps.0, sleeps.1.still)
