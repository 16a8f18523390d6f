use Rattle.std.proofs.Common.{◌∙◌, sym, not}
use Rattle.lio_task.proofs.LentLemmas.{after-none, after-some, may-serve, not-false, recorded-met, state-looked_at}
use Rattle.lio_task.proofs.config.Holder.record_met.Goals as goal

pub serve-requires : goal.serve-requires
serve-requires c =
    let node = c.args.self.now.node in let can = c.requires in
    may-serve node c.wake-woken.new.self.node c.args.ticket can.entry (not c.is_looked_at.result) can.is_ready can.takes_part can.later
    (λ still. state-looked_at node.state can.entry.act (sym (c.is_looked_at.ensures can.entry can.is_ready) ∙ not-false c.is_looked_at.result still)) c.wake-woken.ensures.node

pub returns-then-is_none : goal.returns-then-is_none
returns-then-is_none c = λ entry ready.
    let old = c.args.self.now in
    recorded-met old c.wake-woken.new.self.node c.serve.new.self c.args.child c.is_looked_at.result entry c.args.ticket c.args.child c.wake-woken.result
    (c.is_looked_at.ensures entry ready) c.wake-woken.ensures.woken c.wake-woken.ensures.node
    (λ script. after-none script old.task c.wake-woken.new.self.task c.args.child c.wake-woken.ensures.task c.if-is_none.ensures) ready (c.serve.ensures entry)

pub returns-else-is_none : goal.returns-else-is_none
returns-else-is_none c = λ entry ready.
    let old = c.args.self.now in
    recorded-met old c.wake-woken.new.self.node c.serve.new.self c.wake-woken.new.self.task c.is_looked_at.result entry c.args.ticket c.args.child c.wake-woken.result
    (c.is_looked_at.ensures entry ready) c.wake-woken.ensures.woken c.wake-woken.ensures.node
    (λ script. after-some script old.task c.wake-woken.new.self.task c.args.child c.wake-woken.ensures.task c.if-is_none.ensures) ready (c.serve.ensures entry)
