use Rattle.std.proofs.Common.{rules, ◌≡◌, subst, Option, Ok}
use Rattle.futures.specs.declared.task.Poll.TheVariants.{Ready}
use Rattle.lio_rounds.specs.MachineParts.{MachineParts, machine_of}
use Rattle.lio_async_rounds.specs.RoundsFuture.{Polls}
use Rattle.lio_async_rounds.proofs.RoundLemmas.{moves-none}
use Rattle.lio_async_rounds.proofs.rounds_future.RoundsFuture.advance.Goals as goal

pub returns-in-Ok-eq0 : goal.returns-in-Ok-eq0
returns-in-Ok-eq0 c =
    let went = c.in-Ok-eq0.ensures in
    let zero : c.in-Ok-eq0.field-0 ≡ 0 = search rules in
    let moves = moves-none (machine_of c.in-Some.machine) (machine_of c.round.new.self) c.in-Ok-eq0.field-0 went.moved zero went.lists went.ok in
    subst (λ (m : Option MachineParts). Polls m (Ready (Ok c.round.new.self)) c.take.new.self) c.in-Some.ensures.value (moves, c.take.ensures.after)
