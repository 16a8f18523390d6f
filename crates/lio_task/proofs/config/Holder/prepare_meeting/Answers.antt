use Rattle.std.proofs.Common.{refl}
use Rattle.lio_task.proofs.LentLemmas.{meeting-prepared}
use Rattle.lio_task.proofs.config.Holder.prepare_meeting.Goals as goal

pub returns-in-Err-meet-clause-err : goal.returns-in-Err-meet-clause-err
returns-in-Err-meet-clause-err c = record { actor = record { cell = refl; log = refl; waiters = refl }; met = c.meet.ensures.same c.args.script.now }

pub returns-in-Ok-prepare-clause-ok : goal.returns-in-Ok-prepare-clause-ok
returns-in-Ok-prepare-clause-ok c =
    let script = c.args.script.now in
    meeting-prepared script c.args.self.now c.prepare.new.self c.args.met.now c.meet.new.met c.args.k c.args.n c.args.act c.args.onward c.meet.new.entry c.in-Ok.child
    c.requires.ready c.in_default.ensures.filled c.in-Ok-prepare.ensures.ok (c.meet.ensures.same script) c.in_default.ensures.ready c.in-Ok.ensures

pub returns-in-Err-prepare-clause-err : goal.returns-in-Err-prepare-clause-err
returns-in-Err-prepare-clause-err c = record { actor = c.in-Err-prepare.ensures.err; met = c.meet.ensures.same c.args.script.now }
