use Rattle.std.proofs.Common.{◌∙◌, sym}
use Rattle.lio_task.proofs.LentLemmas.{job-part, may-serve, recorded-alone, state-kept}
use Rattle.lio_task.proofs.config.Holder.record.Goals as goal

pub serve-requires : goal.serve-requires
serve-requires c =
    let node = c.args.self.now.node in let can = c.requires in
    may-serve node c.wake-woken.new.self.node c.args.ticket can.entry c.is_ending.result can.is_ready (job-part node.state can.entry.act can.job) can.later
    (λ still. state-kept node.state can.entry.act can.job (sym (c.is_ending.ensures can.entry can.is_ready) ∙ still)) c.wake-woken.ensures.node

pub returns : goal.returns
returns c = λ entry ready.
    recorded-alone c.args.self.now c.wake-woken.new.self.node c.serve.new.self c.wake-woken.new.self.task c.is_ending.result entry c.args.ticket c.wake-woken.result
    (c.is_ending.ensures entry ready) c.wake-woken.ensures.woken c.wake-woken.ensures.node c.wake-woken.ensures.task ready (c.serve.ensures entry)
