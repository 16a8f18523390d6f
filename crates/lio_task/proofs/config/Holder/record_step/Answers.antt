use Rattle.std.proofs.Common.{refl, ap, false, None}
use Rattle.lio_task.specs.Turns.{ends}
use Rattle.lio_task.proofs.LentLemmas.{job-part, may-serve, of-step, recorded-alone, state-kept}
use Rattle.lio_task.proofs.config.Holder.record_step.Goals as goal

pub serve-requires : goal.serve-requires
serve-requires c =
    let node = c.args.self.now.node in let can = c.requires.can in
    may-serve node node c.args.ticket can.entry false can.is_ready (job-part node.state can.entry.act can.job) can.later
    (λ still. state-kept node.state can.entry.act can.job (ap ends c.requires.step)) refl

pub returns : goal.returns
returns c = λ entry ready.
    recorded-alone c.args.self.now c.args.self.now.node c.serve.new.self c.args.self.now.task false entry c.args.ticket None
    (of-step c.args.self.now.node c.requires.can.entry entry c.requires.can.is_ready ready c.requires.step) refl refl refl ready (c.serve.ensures entry)
