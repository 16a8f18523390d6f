use Rattle.std.proofs.Common.{◌≡◌, ◌<◌, ℕ, List, length, ap, arith}
use Rattle.lio_task.specs.Configuration.{configuration_of}
use Rattle.lio_calculus_runs.proofs.OrderLaws.{order-short}
use Rattle.lio_rounds.proofs.machine.Machine.order.Goals as goal

pub returns-clause-few : goal.returns-clause-few
returns-clause-few c =
    let here = configuration_of c.self.inside.script c.self.inside.config in
    let len : length c.as_slice.result.now ≡ length c.self.inside.order.items = ap (λ (ks : List ℕ). length ks) c.as_slice.ensures.value in
    let short = order-short here c.self.inside.order.items c.self.invariant.0.lists in
    let few : length here.cells < 2147483648 = c.self.invariant.0.well_formed.sound.few in
    omega (arith, len, short, few)
