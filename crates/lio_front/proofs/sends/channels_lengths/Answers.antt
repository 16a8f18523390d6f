use Rattle.std.proofs.Common.{◌∙◌}
use Rattle.lio_front.proofs.SendLemmas.{lengths-none, lengths-no_channels}
use Rattle.lio_front.proofs.sends.channels_lengths.Goals as goal

pub loop-entry-init : goal.loop-entry-init
loop-entry-init c = c.in_ok-lengths.ensures.items_if_clones_equal (λ y same. same) ∙ lengths-none c.args.count

pub returns-then-count-eq0 : goal.returns-then-count-eq0
returns-then-count-eq0 c = lengths-no_channels c.new.result.items c.args.journal.now c.args.count c.new.ensures.items c.if-count-eq0.true
