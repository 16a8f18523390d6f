use Rattle.std.proofs.Common.{rules, ◌≡◌, ◌≢◌, ◌≤◌, ◌∙◌, ap, refl, sym, [], length, Some, inr}
use Rattle.std.specs.Option.{option_map}
use Rattle.lio_rounds.specs.MachineParts.{machine_of}
use Rattle.lio_rounds.specs.MachineState.{MachineState}
use Rattle.lio_async_rounds.specs.RoundsFuture.{MovesSome}
use Rattle.lio_async_rounds.specs.ViewStream.{Goes, machine_in, waiting}
use Rattle.lio_async_rounds.proofs.RoundLemmas.{moves-none, moves-some}
use Rattle.lio_async_rounds.proofs.StreamLemmas.{gave-here, gave-on, moves-here, waiting-on, within-at}
use Rattle.lio_async_rounds.proofs.view_stream.ViewStream.advance.Goals as goal

pub give-requires-clause-found : goal.give-requires-clause-found
give-requires-clause-found c = c.if-find.ensures.found

pub returns-then-find : goal.returns-then-find
returns-then-find c =
    let old = c.args.self.now in
    let there : machine_in old ≡ Some (machine_of c.in-Some.machine) = sym (ap (option_map machine_of) c.in-Some.ensures.value) in
    gave-here old c.find.new.self c.give.new.self (machine_of c.in-Some.machine) c.give.result there c.find.ensures.same c.find.ensures.observer c.find.ensures.given c.give.ensures

pub give-requires-then-find-2-clause-found : goal.give-requires-then-find-2-clause-found
give-requires-then-find-2-clause-found c = c.if-find-2.ensures.found

pub returns-then-find-2 : goal.returns-then-find-2
returns-then-find-2 c =
    let old = c.args.self.now in
    let before : MachineState = machine_of c.in-Some.machine in
    let after : MachineState = machine_of c.round.new.self in
    let there : machine_in old ≡ Some before = sym (ap (option_map machine_of) c.in-Some.ensures.value) in
    let none : waiting old before ≡ [] = sym c.find.ensures.same ∙ c.if-find.ensures.found in
    let some : c.in-Ok.field-0 ≢ 0 = search rules in
    let moves : MovesSome before after = moves-some before after c.in-Ok.field-0 c.in-Ok.ensures.moved some c.in-Ok.ensures.ok in
    let goes : Goes old before after MovesSome = record { there = there; none = none; moves = moves } in
    let within : old.next ≤ length before.entries = within-at old.machine before old.next there old.within in
    let on = waiting-on old c.find.new.self before after moves within c.find.ensures.within none c.if-find.ensures.found c.find.ensures.observer c.find.ensures.given in
    gave-on old c.find-in-Ok.new.self c.give-then-find-2.new.self before after c.give-then-find-2.result (record { there = there; lists = c.in-Ok.ensures.lists }) (inr (before, goes))
    (c.find-in-Ok.ensures.same ∙ on) (c.find-in-Ok.ensures.observer ∙ c.find.ensures.observer) (c.find-in-Ok.ensures.given ∙ c.find.ensures.given) c.give-then-find-2.ensures

pub returns-in-Ok-eq0 : goal.returns-in-Ok-eq0
returns-in-Ok-eq0 c =
    let old = c.args.self.now in
    let before : MachineState = machine_of c.in-Some.machine in
    let after : MachineState = machine_of c.round.new.self in
    let there : machine_in old ≡ Some before = sym (ap (option_map machine_of) c.in-Some.ensures.value) in
    let zero : c.in-Ok-eq0.field-0 ≡ 0 = search rules in
    let went = c.in-Ok-eq0.ensures in
    let moves = moves-none before after c.in-Ok-eq0.field-0 went.moved zero went.lists went.ok in
    (inr (before, record { there = there; none = sym c.find.ensures.same ∙ c.if-find.ensures.found; moves = moves-here before after moves }), c.find.ensures.none)

pub returns-else-find-2 : goal.returns-else-find-2
returns-else-find-2 c =
    let old = c.args.self.now in
    let before : MachineState = machine_of c.in-Some.machine in
    let after : MachineState = machine_of c.round.new.self in
    let there : machine_in old ≡ Some before = sym (ap (option_map machine_of) c.in-Some.ensures.value) in
    let none : waiting old before ≡ [] = sym c.find.ensures.same ∙ c.if-find.ensures.found in
    let some : c.in-Ok.field-0 ≢ 0 = search rules in
    let moves : MovesSome before after = moves-some before after c.in-Ok.field-0 c.in-Ok.ensures.moved some c.in-Ok.ensures.ok in
    let within : old.next ≤ length before.entries = within-at old.machine before old.next there old.within in
    let on = waiting-on old c.find.new.self before after moves within c.find.ensures.within none c.if-find.ensures.found c.find.ensures.observer c.find.ensures.given in (
      before,
      after,
      record { there = there; none = none; moves = moves },
      record {
        none = sym (c.find-in-Ok.ensures.same ∙ on) ∙ c.if-find-2.ensures.found;
        none_after = c.if-find-2.ensures.found;
        there = refl;
        observer = c.find-in-Ok.ensures.observer ∙ c.find.ensures.observer;
        given = c.find-in-Ok.ensures.given ∙ c.find.ensures.given;
      },
    )

pub returns-in-Err : goal.returns-in-Err
returns-in-Err c =
    let there : machine_in c.args.self.now ≡ Some (machine_of c.in-Some.machine) = sym (ap (option_map machine_of) c.in-Some.ensures.value) in
    ((machine_of c.in-Some.machine, record { there = there; lists = c.round.ensures.lists }), c.find.ensures.none)
