use Rattle.std.proofs.Common.{◌≡◌, ◌<◌, ◌∙◌, ap, sym, subst, ℕ, List, false, true, is_some, get_or, length, arith}
use Rattle.std.specs.Int.{w32}
use Rattle.std.proofs.Math.Facts.{Fits-of_lt}
use Rattle.lio_calculus_runs.proofs.OrderLaws.{order-short}
use Rattle.lio_calculus.specs.Step.{Configuration, can, cell_at}
use Rattle.lio_task.specs.Configuration.{configuration_of}
use Rattle.lio_task.specs.Takes.{awaited_at}
use Rattle.lio_rounds.specs.MachineParts.{MachineParts, machine_of}
use Rattle.lio_rounds.proofs.HolderTasks.{TaskAwaits, task-awaits}
use Rattle.lio_rounds.proofs.SleepLemmas.{sleepers-more}
use Rattle.lio_rounds.proofs.machine.Machine.rest.Goals as goal

pub overflow_cast-i : goal.overflow_cast-i
overflow_cast-i c =
    let here : Configuration = configuration_of c.self.inside.script c.self.inside.config in
    let short = order-short here c.self.inside.order.items c.self.invariant.0.lists in
    let few : length here.cells < 2147483648 = c.self.invariant.0.well_formed.sound.few in
    let inside : c.args.i < length c.self.inside.order.items = subst (λ (m : MachineParts). c.args.i < length (machine_of m).order) (sym c.self.view_is) c.requires.place in
    Fits-of_lt {w = w32} (omega (arith, short, few, inside))

pub invariant_of-self : goal.invariant_of-self
invariant_of-self c =
    let script = c.self.inside.script in
    let config = c.self.inside.config in
    let here : Configuration = configuration_of script config in
    let order : List ℕ = c.self.inside.order.items in
    let i : ℕ = c.args.i in
    let inside : i < length order = subst (λ (m : MachineParts). i < length (machine_of m).order) (sym c.self.view_is) c.requires.place in
    let at : c.args.k ≡ get_or order i 0 = c.requires.task ∙ ap (λ (m : MachineParts). get_or (machine_of m).order i 0) (sym c.self.view_is) in
    let still : can here (get_or order i 0) ≡ false = subst (λ (k : ℕ). can here k ≡ false) at (ap (λ (m : MachineParts). can (machine_of m).configuration c.args.k) c.self.view_is ∙ c.requires.still) in
    let stands : c.awaited-node.result ≡ awaited_at script config (get_or order i 0) = c.awaited-node.ensures ∙ ap (awaited_at script config) at in
    let some : is_some (cell_at here (get_or order i 0)).task ≡ true = c.self.invariant.0.lists.tasks_alone i 0 inside in
    let task : TaskAwaits here (get_or order i 0) c.awaited-node.result = task-awaits script config (get_or order i 0) c.awaited-node.result some stands in (
      c.self.invariant.0,
      sleepers-more here order c.self.inside.awake c.rest.new.self c.awaited-node.result i task.task c.self.invariant.0.well_formed.sound c.self.invariant.1 inside task.is still task.awaits
          c.rest.ensures.asleep c.rest.ensures.waiting,
      c.self.invariant.2,
    )
