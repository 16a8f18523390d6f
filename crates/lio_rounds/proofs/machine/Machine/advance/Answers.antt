use Rattle.std.proofs.Common.{◌≡◌, ◌∙◌, ℕ, List, [], ◌∷◌, ◌++◌, length, append-nil, refl, sym, ap, subst, Some}
use Rattle.lio_values.specs.declared.entry.Entry.{Entry}
use Rattle.lio_calculus.specs.Step.{Configuration, Turn, step}
use Rattle.lio_calculus_runs.specs.Round.{born_in}
use Rattle.lio_calculus.specs.Journals.{of_cell}
use Rattle.lio_task.specs.Configuration.{configuration_of}
use Rattle.lio_task.specs.Logs.{log_in}
use Rattle.lio_task.specs.Outcome.{listed as listed_by}
use Rattle.lio_rounds.specs.Invariant.{IsMachine}
use Rattle.lio_rounds.specs.MachineParts.{MachineParts, machine_of}
use Rattle.lio_rounds.specs.MachineState.{HasTaken, MachineState}
use Rattle.lio_rounds.specs.Sleep.{SleepersMay}
use Rattle.lio_rounds.proofs.MachineLemmas.{later-than-logs, machine-took, parts-push}
use Rattle.lio_rounds.proofs.SleepLemmas.{KeepsNoted, Wakes, sleepers-kept}
use Rattle.lio_rounds.proofs.machine.Machine.advance.Goals as goal
use Rattle.lio_rounds.proofs.machine.Machine.advance.Goals.{in-Some, in_default}

pub invariant_of-self-in-Ok : goal.invariant_of-self-in-Ok
invariant_of-self-in-Ok c =
    let script = c.self.inside.script in
    let here : Configuration = configuration_of script c.self.inside.config in
    let next : Configuration = configuration_of script c.take.new.self in
    let entry : Entry = c.take.new.entry in
    let order : List ℕ = c.self.inside.order.items in
    let before : List Entry = c.self.inside.entries.items in
    let turn : Turn = record { entry = entry; next = next } in
    let ticket : c.ticket-ticket.result ≡ length before = c.ticket-ticket.ensures ∙ ap (λ (es : List Entry). length es) c.has_room.ensures.items in
    let steps : step (length before) here c.args.k ≡ Some turn = subst (λ (t : ℕ). step t here c.args.k ≡ Some turn) ticket c.in-Ok.ensures.ok in
    elim c.match-born_in.branch [
      | in-Some w ↦
          let now : List Entry = c.push_reserved-in-Ok.new.self.items in
          let listed : List ℕ = w.push_reserved.new.self.items in
          let pushed : now ≡ c.has_room.new.list.items ++ entry ∷ [] = rw w.self-inside-is at c.push_reserved-in-Ok.ensures.items in
          let lists : listed ≡ order ++ born_in entry =
          w.push_reserved.ensures.items ∙ ap (λ (ks : List ℕ). ks ++ w.in-Some.child ∷ []) c.has_room-2.ensures.items
          ∙ ap (λ (ks : List ℕ). order ++ ks) (ap listed_by (sym w.in-Some.is) ∙ c.born_in.ensures.born) in
          let took : IsMachine next listed now =
          machine-took here next c.args.k entry order listed before now c.self.invariant.0 steps lists (pushed ∙ ap (λ (es : List Entry). es ++ entry ∷ []) c.has_room.ensures.items) in
          let woken : Wakes c.self.inside.awake c.wake_met.new.self entry = rw w.self-inside-is at c.wake_met.ensures.asleep in
          let noted : KeepsNoted c.self.inside.awake c.wake_met.new.self entry = rw w.self-inside-is at c.wake_met.ensures.waiting in
          rw w.self-inside-is (
            took,
            sleepers-kept (length before) here next c.args.k entry order listed (born_in entry) c.self.inside.awake c.wake_met.new.self c.self.invariant.0.well_formed.sound took.well_formed.sound
                steps lists c.self.invariant.1 woken noted,
            record { parts = parts-push (log_in c.self.inside.config) (log_in c.take.new.self) before entry now c.self.invariant.2.parts c.in-Ok.ensures.logs (pushed ∙ ap (λ (es : List Entry). es ++ entry ∷ []) c.has_room.ensures.items) },
          )
      | in_default w ↦
          let now : List Entry = c.push_reserved-in-Ok.new.self.items in
          let listed : List ℕ = c.has_room-2.new.list.items in
          let pushed : now ≡ c.has_room.new.list.items ++ entry ∷ [] = rw w.self-inside-is at c.push_reserved-in-Ok.ensures.items in
          let lists : listed ≡ order ++ born_in entry =
          c.has_room-2.ensures.items ∙ sym (append-nil order) ∙ ap (λ (ks : List ℕ). order ++ ks) (ap listed_by (sym w.in_default.is) ∙ c.born_in.ensures.born) in
          let took : IsMachine next listed now =
          machine-took here next c.args.k entry order listed before now c.self.invariant.0 steps lists (pushed ∙ ap (λ (es : List Entry). es ++ entry ∷ []) c.has_room.ensures.items) in
          let woken : Wakes c.self.inside.awake c.wake_met.new.self entry = rw w.self-inside-is at c.wake_met.ensures.asleep in
          let noted : KeepsNoted c.self.inside.awake c.wake_met.new.self entry = rw w.self-inside-is at c.wake_met.ensures.waiting in
          rw w.self-inside-is (
            took,
            sleepers-kept (length before) here next c.args.k entry order listed (born_in entry) c.self.inside.awake c.wake_met.new.self c.self.invariant.0.well_formed.sound took.well_formed.sound
                steps lists c.self.invariant.1 woken noted,
            record { parts = parts-push (log_in c.self.inside.config) (log_in c.take.new.self) before entry now c.self.invariant.2.parts c.in-Ok.ensures.logs (pushed ∙ ap (λ (es : List Entry). es ++ entry ∷ []) c.has_room.ensures.items) },
          )
    ]

pub invariant_of-self-in-Err : goal.invariant_of-self-in-Err
invariant_of-self-in-Err c =
    let script = c.self.inside.script in
    let here : Configuration = configuration_of script c.self.inside.config in
    let next : Configuration = configuration_of script c.take.new.self in
    let order : List ℕ = c.self.inside.order.items in
    let before : List Entry = c.self.inside.entries.items in
    let listed : List ℕ = c.has_room-2.new.list.items in
    let same : here ≡ next = sym c.in-Err.ensures.err in (
      subst (IsMachine next listed) (sym c.has_room.ensures.items)
          (subst (λ (ks : List ℕ). IsMachine next ks before) (sym c.has_room-2.ensures.items) (subst (λ (d : Configuration). IsMachine d order before) same c.self.invariant.0)),
      subst (λ (ks : List ℕ). SleepersMay next ks c.self.inside.awake) (sym c.has_room-2.ensures.items)
          (subst (λ (d : Configuration). SleepersMay d order c.self.inside.awake) same c.self.invariant.1),
      record { parts = λ n. c.in-Err.ensures.kept n ∙ c.self.invariant.2.parts n ∙ ap (of_cell n) (sym c.has_room.ensures.items) },
    )

pub returns-after-born_in-clause-ok : goal.returns-after-born_in-clause-ok
returns-after-born_in-clause-ok c =
    let script = c.self.inside.script in
    let here : Configuration = configuration_of script c.self.inside.config in
    let next : Configuration = configuration_of script c.take.new.self in
    let entry : Entry = c.take.new.entry in
    let order : List ℕ = c.self.inside.order.items in
    let before : List Entry = c.self.inside.entries.items in
    let turn : Turn = record { entry = entry; next = next } in
    let ticket : c.ticket-ticket.result ≡ length before = c.ticket-ticket.ensures ∙ ap (λ (es : List Entry). length es) c.has_room.ensures.items in
    let steps : step (length before) here c.args.k ≡ Some turn = subst (λ (t : ℕ). step t here c.args.k ≡ Some turn) ticket c.in-Ok.ensures.ok in
    let was : MachineState = record { script = script; configuration = here; entries = before; order = order } in
    elim c.match-born_in.branch [
      | in-Some w ↦
          let now : List Entry = c.push_reserved-in-Ok.new.self.items in
          let listed : List ℕ = w.push_reserved.new.self.items in
          let pushed : now ≡ c.has_room.new.list.items ++ entry ∷ [] = rw w.self-inside-is at c.push_reserved-in-Ok.ensures.items in
          let lists : listed ≡ order ++ born_in entry =
          w.push_reserved.ensures.items ∙ ap (λ (ks : List ℕ). ks ++ w.in-Some.child ∷ []) c.has_room-2.ensures.items
          ∙ ap (λ (ks : List ℕ). order ++ ks) (ap listed_by (sym w.in-Some.is) ∙ c.born_in.ensures.born) in
          let is : MachineState = record { script = script; configuration = next; entries = now; order = listed } in
          let taken : HasTaken was is c.args.k entry = record {
            is_step = steps;
            entries = pushed ∙ ap (λ (es : List Entry). es ++ entry ∷ []) c.has_room.ensures.items;
            order = lists;
            script = refl;
          } in
          rw w.self-inside-is (entry, subst (λ (m : MachineParts). HasTaken (machine_of m) is c.args.k entry) c.self.view_is taken)
      | in_default w ↦
          let now : List Entry = c.push_reserved-in-Ok.new.self.items in
          let listed : List ℕ = c.has_room-2.new.list.items in
          let pushed : now ≡ c.has_room.new.list.items ++ entry ∷ [] = rw w.self-inside-is at c.push_reserved-in-Ok.ensures.items in
          let lists : listed ≡ order ++ born_in entry =
          c.has_room-2.ensures.items ∙ sym (append-nil order) ∙ ap (λ (ks : List ℕ). order ++ ks) (ap listed_by (sym w.in_default.is) ∙ c.born_in.ensures.born) in
          let is : MachineState = record { script = script; configuration = next; entries = now; order = listed } in
          let taken : HasTaken was is c.args.k entry = record {
            is_step = steps;
            entries = pushed ∙ ap (λ (es : List Entry). es ++ entry ∷ []) c.has_room.ensures.items;
            order = lists;
            script = refl;
          } in
          rw w.self-inside-is (entry, subst (λ (m : MachineParts). HasTaken (machine_of m) is c.args.k entry) c.self.view_is taken)
    ]

pub take-requires-clause-sound : goal.take-requires-clause-sound
take-requires-clause-sound c = c.self.invariant.0.well_formed.sound

pub take-requires-clause-later : goal.take-requires-clause-later
take-requires-clause-later c = λ n.
    later-than-logs (log_in c.self.inside.config) c.self.inside.entries.items c.ticket-ticket.result n c.self.invariant.2.parts c.self.invariant.0.numbered
    (c.ticket-ticket.ensures ∙ ap (λ (es : List Entry). length es) c.has_room.ensures.items)
