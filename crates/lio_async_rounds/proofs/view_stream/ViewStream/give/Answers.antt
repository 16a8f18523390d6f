use Rattle.std.proofs.Common.{rules, ◌≡◌, ◌∙◌, ap, refl, subst, ℕ, List}
use Rattle.lio_values.specs.declared.entry.Entry.{Entry}
use Rattle.lio_values.specs.Erasure.{erase_entry}
use Rattle.lio_calculus_runs.specs.RoundLaws.{IsOrderOf}
use Rattle.lio_rounds.specs.MachineParts.{machine_of}
use Rattle.lio_rounds.specs.MachineState.{MachineState}
use Rattle.lio_async_rounds.proofs.StreamLemmas.{found-at, given-first}
use Rattle.lio_async_rounds.proofs.view_stream.ViewStream.give.Goals as goal

pub returns-in-Ok : goal.returns-in-Ok
returns-in-Ok c =
    let s = c.args.self.now in
    let machine : MachineState = machine_of c.args.machine in
    let found = c.requires.found in
    let at : c.index-entries-self.result ≡ found.entry =
    found-at s.next machine.entries found.rest found.entry c.index-entries-self.result found.at (search rules) in
    let is : c.in-Ok.entry ≡ erase_entry s.observer (record found.entry { ticket = s.given }) =
    c.in-Ok.ensures ∙ ap (λ (e : Entry). erase_entry s.observer (record e { ticket = s.given })) at in
    record {
      first = given-first s.observer s.given s.next machine.entries found.rest found.entry c.in-Ok.entry found.at found.seen is;
      runs = record { there = refl; lists = subst (λ (ks : List ℕ). IsOrderOf machine.configuration ks) c.order.ensures.order c.order.ensures.lists };
      observer = refl;
      given = refl;
    }
