use Rattle.std.proofs.Common.{◌∙◌}
use Rattle.std.proofs.lemmas.Result.{on_ok_weaker}
use Rattle.lio_task.specs.declared.go.Way.TheVariants as way
use Rattle.lio_task.proofs.LentLemmas.{has-prepared}
use Rattle.lio_task.proofs.config.Holder.prepare_going.Goals as goal

pub go_short-requires : goal.go_short-requires
go_short-requires c = record { task = c.requires.task; is = c.reserve.ensures.task ∙ c.requires.is; can_go = c.requires.can_go }

pub returns-in-Ok-clause-ok : goal.returns-in-Ok-clause-ok
returns-in-Ok-clause-ok c =
    on_ok_weaker c.go_short.result
    (λ goes. has-prepared c.args.script.now c.args.self.now c.reserve.new.self c.go_short.new.self (way.Short c.args.short) c.args.entry.now c.reserve.ensures.task (c.reserve.ensures.same c.args.script.now) c.in-Ok.ensures.ready goes c.go_short.ensures.node)
    c.go_short.ensures.ok

pub returns-in-Err-clause-err : goal.returns-in-Err-clause-err
returns-in-Err-clause-err c = c.reserve.ensures.same c.args.script.now
