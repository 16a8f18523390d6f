use Rattle.std.proofs.Common.{refl, subst, Some}
use Rattle.std.proofs.lemmas.Result.{on_ok_weaker}
use Rattle.lio_values.specs.declared.act.Reply.{Reply}
use Rattle.lio_task.specs.Turns.{IsFilled}
use Rattle.lio_task.proofs.LentLemmas.{filled-by}
use Rattle.lio_task.proofs.config.Holder.meet.Goals as goal

pub returns-in-Ok-tell_label-clause-filled : goal.returns-in-Ok-tell_label-clause-filled
returns-in-Ok-tell_label-clause-filled c =
    let holder = c.args.self.now in let entry = c.fill.new.entry in
    on_ok_weaker c.reserve.result
    (λ ready. subst (λ (reply : Reply). IsFilled holder c.args.k (Some c.args.n) c.args.act reply entry) c.in-Ok.ensures
    (filled-by holder c.args.k (Some c.args.n) c.args.act c.in-Ok.reply c.tell_label.new.entry entry c.in-Ok-tell_label.ensures c.fill.ensures))
    c.reserve.ensures.ready

pub returns-in-Ok-tell_label-clause-ready : goal.returns-in-Ok-tell_label-clause-ready
returns-in-Ok-tell_label-clause-ready c = c.reserve.ensures.ready

pub returns-in-Ok-tell_label-clause-same : goal.returns-in-Ok-tell_label-clause-same
returns-in-Ok-tell_label-clause-same c = c.reserve.ensures.same

pub returns-in-Err-tell_label-clause-same : goal.returns-in-Err-tell_label-clause-same
returns-in-Err-tell_label-clause-same c = λ script. record { cell = refl; log = refl; waiters = refl }

pub returns-in-Err-clause-same : goal.returns-in-Err-clause-same
returns-in-Err-clause-same c = λ script. record { cell = refl; log = refl; waiters = refl }
