use Rattle.std.proofs.Common.{refl, subst, sym}
use Rattle.atomic_table.specs.Table.{rest}
use Rattle.lio_table.specs.Steps.{CanGive}
use Rattle.lio_table.proofs.SeatLemmas.{put-back}
use Rattle.lio_table.proofs.table.Table.put.Goals as goal

pub give_node-requires-clause-can_give : goal.give_node-requires-clause-can_give
give_node-requires-clause-can_give c =
    let can = c.requires.can_put in
    subst (CanGive c.args.n) (sym c.exchange.ensures.3)
    (record { holder = c.args.holder; rest = rest c.args.seat.now.me.1; slot = refl; holds = can.holds; has_log = can.has_log })

pub returns-clause-put : goal.returns-clause-put
returns-clause-put c =
    put-back c.args.n c.args.holder c.args.seat.now.me c.exchange.new.seat.me c.give_node.new.seat.me c.requires.can_put.rest c.requires.can_put.slots c.exchange.ensures.3 c.give_node.ensures.given
