use Rattle.std.proofs.Common.{◌∙◌, refl, sym, ap, subst, Some}
use Rattle.lio_values.specs.declared.act.Reply.{Reply}
use Rattle.lio_values.specs.declared.entry.Entry.{Entry}
use Rattle.lio_cells.specs.State.{ready as is_ready, answer}
use Rattle.lio_calculus.specs.Step.{Cell}
use Rattle.lio_task.specs.Configuration.{configuration_of}
use Rattle.lio_task.specs.StateOf.{state_in}
use Rattle.lio_task.specs.Takes.{WouldShow}
use Rattle.lio_task.proofs.HolderLemmas.{task-cell}
use Rattle.lio_task.proofs.MoveLemmas.{found-cell, not-missing}
use Rattle.lio_task.proofs.PreviewLemmas.{visit-shows, visit-stays, visit-within}
use Rattle.lio_task.proofs.config.Config.next_visit.Goals as goal

pub unreachable-requires : goal.unreachable-requires
unreachable-requires c =
    let script = c.args.script.now in let here = configuration_of script c.args.self.now in let state = state_in script c.args.task.now in
    let within = visit-within here c.args.k state c.args.act c.args.n c.requires.sound (task-cell script c.args.self.now c.args.k c.args.task.now c.requires.task) c.requires.next in
    not-missing script c.args.self.now c.args.n c.args.n c.deref.result.now c.deref.ensures.value refl within c.in_default.ensures.lookup.0

pub returns-then-not-ready-clause-fault : goal.returns-then-not-ready-clause-fault
returns-then-not-ready-clause-fault c =
    let script = c.args.script.now in let here = configuration_of script c.args.self.now in let state = state_in script c.args.task.now in
    let cell = found-cell script c.args.self.now c.args.n c.args.n c.deref.result.now c.in-Some.holder.now c.deref.ensures.value refl c.in-Some.ensures.lookup.0 c.in-Some.ensures.lookup.1 in (
      refl,
      visit-stays here c.args.k state c.args.act c.args.n c.requires.sound (task-cell script c.args.self.now c.args.k c.args.task.now c.requires.task) c.requires.next
          (ap (λ (at : Cell). is_ready at.state c.args.act) cell ∙ sym c.if-not-ready.ensures),
    )

pub returns-in_ok-entry_of-in-Ok-clause-ok : goal.returns-in_ok-entry_of-in-Ok-clause-ok
returns-in_ok-entry_of-in-Ok-clause-ok c =
    let script = c.args.script.now in let here = configuration_of script c.args.self.now in let state = state_in script c.args.task.now in
    let cell = found-cell script c.args.self.now c.args.n c.args.n c.deref.result.now c.in-Some.holder.now c.deref.ensures.value refl c.in-Some.ensures.lookup.0 c.in-Some.ensures.lookup.1 in
    let shown : Reply → Entry = λ reply. record { ticket = c.args.ticket; actor = c.args.k; target = Some c.args.n; at = c.args.task.now.label; act = c.args.act; reply = reply } in
    subst (WouldShow here c.args.k c.args.ticket)
    (ap (λ (at : Cell). shown (answer at.state c.args.act)) cell ∙ ap shown (sym c.in-Ok.ensures) ∙ sym c.in_ok-entry_of-in-Ok.ensures)
    (visit-shows here c.args.k c.args.ticket state c.args.act c.args.n c.requires.sound (task-cell script c.args.self.now c.args.k c.args.task.now c.requires.task) c.requires.next
    (ap (λ (at : Cell). is_ready at.state c.args.act) cell ∙ sym c.if-not-ready.ensures))
