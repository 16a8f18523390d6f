use Rattle.std.proofs.lemmas.Result.{on_ok_weaker}
use Rattle.lio_task.proofs.LentLemmas.{alone-prepared, filled-by}
use Rattle.lio_task.proofs.config.Holder.prepare_alone.Goals as goal

pub returns-in-Ok-clause-ok : goal.returns-in-Ok-clause-ok
returns-in-Ok-clause-ok c =
    let old = c.args.self.now in let entry = c.fill.new.entry in
    on_ok_weaker c.prepare.result
    (λ prepared. alone-prepared c.args.script.now old c.prepare.new.self c.args.k c.args.act c.args.reply c.args.way entry
    (filled-by old c.args.k _ c.args.act c.args.reply c.tell_label.new.entry entry c.in-Ok.ensures c.fill.ensures) prepared)
    c.prepare.ensures.ok
