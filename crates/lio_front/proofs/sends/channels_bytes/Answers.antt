use Rattle.lio_front.proofs.SendLemmas.{lists-no_channels}
use Rattle.lio_front.proofs.sends.channels_bytes.Goals as goal

pub returns-then-count-eq0 : goal.returns-then-count-eq0
returns-then-count-eq0 c = lists-no_channels c.new.result.items c.args.journal.now c.args.count c.new.ensures.items c.if-count-eq0.true
