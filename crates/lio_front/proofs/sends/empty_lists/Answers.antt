use Rattle.std.proofs.Common.{[], refl}
use Rattle.lio_front.proofs.SendLemmas.{lists-more, lists-no_channels}
use Rattle.lio_front.proofs.sends.empty_lists.Goals as goal

pub loop-number-init : goal.loop-number-init
loop-number-init c = lists-no_channels c.new-lists.result.items [] 0 c.new-lists.ensures.items refl

pub loop-number-preserved : goal.loop-number-preserved
loop-number-preserved c = rw c.in_ok-push.ensures.items (lists-more c.loop-number.lists.items c.loop-number._number c.new.result c.loop-number.invariant c.new.ensures.items)
