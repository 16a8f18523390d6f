use Rattle.std.proofs.Common.{◌∙◌, ap, subst, sym, ℕ}
use Rattle.lio_task.specs.Takes.{PlansOwn}
use Rattle.lio_table.specs.declared.view.Beginning.{Beginning}
use Rattle.lio_table.proofs.AnswerLemmas.{own-moved, own-refused}
use Rattle.lio_table.proofs.EndLemmas.{one-can_put}
use Rattle.lio_table.proofs.table.Table.own.Goals as goal

pub move_alone-moved-requires-clause-script : goal.move_alone-moved-requires-clause-script
move_alone-moved-requires-clause-script c = c.requires.turn.script_is ∙ ap (λ (f : Beginning). f.script) (sym c.requires.turn.first)

pub move_alone-moved-requires-clause-can_put : goal.move_alone-moved-requires-clause-can_put
move_alone-moved-requires-clause-can_put c = one-can_put c.requires.has.0 c.args.k c.args.holder c.args.seat.now.me c.requires.has.1

pub move_alone-moved-requires-clause-stand : goal.move_alone-moved-requires-clause-stand
move_alone-moved-requires-clause-stand c = (c.requires.has.1.whole, c.requires.has.1.stand)

pub move_alone-moved-requires-clause-plans : goal.move_alone-moved-requires-clause-plans
move_alone-moved-requires-clause-plans c =
    subst (λ (longest : ℕ). PlansOwn c.args.script.now longest c.args.holder.task c.args.act c.args.reply c.args.way) (sym (ap (λ (f : Beginning). f.longest) c.requires.turn.first ∙ c.args.self.now.texts)) c.requires.plans

pub returns-in-Ok-clause-ok : goal.returns-in-Ok-clause-ok
returns-in-Ok-clause-ok c = λ before has.
    own-moved before c.args.k c.args.holder c.args.seat.now.me has c.move_alone-moved.new.seat.me c.in-Ok.ticket c.move_alone-moved.new.entry c.in-Ok.woken c.woken_of.result c.in-Ok.ensures.ok c.woken_of.ensures

pub returns-in-Err-clause-err : goal.returns-in-Err-clause-err
returns-in-Err-clause-err c = λ before has. own-refused before c.args.k c.args.holder c.args.seat.now.me has c.move_alone-moved.new.seat.me c.in-Err.ensures.err
