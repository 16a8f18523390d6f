use Rattle.std.proofs.Common.{◌∙◌, refl, sym, ap, subst}
use Rattle.std.specs.Option.{option_copied}
use Rattle.lio_task.specs.Configuration.{configuration_of}
use Rattle.lio_task.specs.StateOf.{state_in}
use Rattle.lio_task.specs.Takes.{WouldShow}
use Rattle.lio_task.proofs.HolderLemmas.{no-task-cell, task-cell}
use Rattle.lio_task.proofs.MoveLemmas.{no-task-still}
use Rattle.lio_task.proofs.PreviewLemmas.{over-stays, own-shows}
use Rattle.lio_task.proofs.config.Config.next_entry.Goals as goal

pub returns-in_default-clause-fault : goal.returns-in_default-clause-fault
returns-in_default-clause-fault c =
    (refl, no-task-still (configuration_of c.args.script.now c.args.self.now) c.args.k (no-task-cell c.args.script.now c.args.self.now c.args.k (sym c.task.ensures ∙ ap option_copied c.in_default.is)))

pub returns-in-Over-clause-fault : goal.returns-in-Over-clause-fault
returns-in-Over-clause-fault c =
    let script = c.args.script.now in (
      refl,
      over-stays (configuration_of script c.args.self.now) c.args.k (state_in script c.in-Some.task.now)
          (task-cell script c.args.self.now c.args.k c.in-Some.task.now (sym c.task.ensures ∙ ap option_copied c.in-Some.is)) (sym c.in_ok-next.ensures ∙ c.in-Over.is),
    )

pub returns-in_ok-entry_of-in-Own-clause-ok : goal.returns-in_ok-entry_of-in-Own-clause-ok
returns-in_ok-entry_of-in-Own-clause-ok c =
    let script = c.args.script.now in let here = configuration_of script c.args.self.now in
    subst (WouldShow here c.args.k c.args.ticket) (sym c.in_ok-entry_of-in-Own.ensures)
    (own-shows here c.args.k c.args.ticket (state_in script c.in-Some.task.now) c.in-Own.act c.in-Own.reply
    (task-cell script c.args.self.now c.args.k c.in-Some.task.now (sym c.task.ensures ∙ ap option_copied c.in-Some.is)) (sym c.in_ok-next.ensures ∙ c.in-Own.is))
