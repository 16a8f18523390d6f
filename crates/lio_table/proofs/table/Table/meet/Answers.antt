use Rattle.std.proofs.Common.{◌∙◌, ap, subst, sym, ℕ}
use Rattle.lio_cells.specs.State.{ready as is_ready}
use Rattle.lio_task.specs.declared.config.Holder.{Holder}
use Rattle.lio_task.specs.Takes.{PlansVisit}
use Rattle.lio_table.specs.declared.view.Beginning.{Beginning}
use Rattle.lio_table.proofs.AnswerLemmas.{meet-moved, meets-both, target-still, two-refused}
use Rattle.lio_table.proofs.EndLemmas.{two-can_put}
use Rattle.lio_table.proofs.table.Table.meet.Goals as goal

pub leave-left-requires-clause-can_put : goal.leave-left-requires-clause-can_put
leave-left-requires-clause-can_put c = two-can_put c.requires.has.0 c.args.k c.args.n c.args.holder c.args.met c.args.seat.now.me c.requires.has.1

pub leave-left-requires-clause-unready : goal.leave-left-requires-clause-unready
leave-left-requires-clause-unready c = ap (λ (h : Holder). is_ready h.node.state c.args.act) (sym c.get.ensures) ∙ sym c.if-not-ready.ensures

pub returns-in-Ok-clause-ok : goal.returns-in-Ok-clause-ok
returns-in-Ok-clause-ok c = λ before has.
    target-still before c.args.k c.args.n c.args.holder c.args.met c.args.seat.now.me has c.leave-left.new.seat.me c.args.act
    (meets-both before c.args.k c.args.n c.args.holder c.args.met c.args.seat.now.me has c.args.self.now c.args.script.now c.args.act c.args.onward c.requires.turn.first c.requires.turn.script_is c.requires.plans)
    (ap (λ (h : Holder). is_ready h.node.state c.args.act) (sym c.get.ensures) ∙ sym c.if-not-ready.ensures) c.in-Ok.ensures.ok

pub returns-in-Err-clause-err : goal.returns-in-Err-clause-err
returns-in-Err-clause-err c = λ before has. two-refused before c.args.k c.args.n c.args.holder c.args.met c.args.seat.now.me has c.leave-left.new.seat.me c.in-Err.ensures.err

pub move_meeting-moved-requires-clause-script : goal.move_meeting-moved-requires-clause-script
move_meeting-moved-requires-clause-script c = c.requires.turn.script_is ∙ ap (λ (f : Beginning). f.script) (sym c.requires.turn.first)

pub move_meeting-moved-requires-clause-can_put : goal.move_meeting-moved-requires-clause-can_put
move_meeting-moved-requires-clause-can_put c = two-can_put c.requires.has.0 c.args.k c.args.n c.args.holder c.args.met c.args.seat.now.me c.requires.has.1

pub move_meeting-moved-requires-clause-stand : goal.move_meeting-moved-requires-clause-stand
move_meeting-moved-requires-clause-stand c = (c.requires.has.1.whole, c.requires.has.1.stand)

pub move_meeting-moved-requires-clause-plans : goal.move_meeting-moved-requires-clause-plans
move_meeting-moved-requires-clause-plans c =
    subst (λ (longest : ℕ). PlansVisit c.args.script.now longest c.args.holder.task c.args.act c.args.n c.args.onward) (sym (ap (λ (f : Beginning). f.longest) c.requires.turn.first ∙ c.args.self.now.texts)) c.requires.plans

pub move_meeting-moved-requires-clause-ready : goal.move_meeting-moved-requires-clause-ready
move_meeting-moved-requires-clause-ready c = ap (λ (h : Holder). is_ready h.node.state c.args.act) (sym c.get.ensures) ∙ sym c.if-not-ready.ensures

pub returns-in-Ok-moved-clause-ok : goal.returns-in-Ok-moved-clause-ok
returns-in-Ok-moved-clause-ok c = λ before has.
    meet-moved before c.args.k c.args.n c.args.holder c.args.met c.args.seat.now.me has c.move_meeting-moved.new.seat.me c.in-Ok-moved.ticket c.args.act c.move_meeting-moved.new.entry c.in-Ok-moved.woken c.in-Ok-moved.met_woken c.born_in-born.result c.woken_of.result
    c.in-Ok-moved.ensures.ok
    (meets-both before c.args.k c.args.n c.args.holder c.args.met c.args.seat.now.me has c.args.self.now c.args.script.now c.args.act c.args.onward c.requires.turn.first c.requires.turn.script_is c.requires.plans)
    (ap (λ (h : Holder). is_ready h.node.state c.args.act) (sym c.get.ensures) ∙ sym c.if-not-ready.ensures) c.born_in-born.ensures.child c.woken_of.ensures

pub returns-in-Err-moved-clause-err : goal.returns-in-Err-moved-clause-err
returns-in-Err-moved-clause-err c = λ before has. two-refused before c.args.k c.args.n c.args.holder c.args.met c.args.seat.now.me has c.move_meeting-moved.new.seat.me c.in-Err-moved.ensures.err
