use Rattle.std.proofs.Common.{ap}
use Rattle.std.proofs.lemmas.Result.{on_ok_weaker}
use Rattle.lio_values.specs.declared.act.Act.TheVariants.{Step}
use Rattle.lio_values.specs.declared.act.Reply.TheVariants.{Done}
use Rattle.lio_values.specs.declared.entry.Entry.{Entry}
use Rattle.lio_task.proofs.LentLemmas.{alone-prepared, filled-by}
use Rattle.lio_task.proofs.config.Holder.prepare_step.Goals as goal

pub returns-in-Ok-clause-ok : goal.returns-in-Ok-clause-ok
returns-in-Ok-clause-ok c =
    let old = c.args.self.now in let entry = c.fill_step.new.entry in
    on_ok_weaker c.prepare.result
    (λ prepared. alone-prepared c.args.script.now old c.prepare.new.self c.args.k Step Done c.args.way entry
    (filled-by old c.args.k _ Step Done c.tell_label.new.entry entry c.in-Ok.ensures c.fill_step.ensures) prepared)
    c.prepare.ensures.ok

pub returns-in-Ok-clause-step : goal.returns-in-Ok-clause-step
returns-in-Ok-clause-step c = on_ok_weaker c.prepare.result (λ prepared. ap (λ (e : Entry). e.act) c.fill_step.ensures) c.prepare.ensures.ok
