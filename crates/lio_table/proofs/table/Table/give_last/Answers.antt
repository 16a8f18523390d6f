use Rattle.std.proofs.Common.{◌∙◌, ap, subst, sym, ◌<◌, length}
use Rattle.lio_table.specs.declared.view.Beginning.{Beginning}
use Rattle.lio_table.specs.declared.view.View.{View}
use Rattle.lio_table.proofs.SeatLemmas.{given-after, given-says, last-first, stands-can_give}
use Rattle.lio_table.proofs.table.Table.give_last.Goals as goal

pub give_node-requires-clause-node : goal.give_node-requires-clause-node
give_node-requires-clause-node c =
    let seat = c.args.seat.now in
    let held = c.requires.held in
    let stands = last-first seat.seat.me.0.first seat.last seat.other c.args.n seat.seat.me.0.claimed seat.seat.me.1 held.node c.requires.seat.out seat.numbers held.has held.number c.requires.last in
    subst (λ l. c.args.n < l) (ap (λ (f : Beginning). length f.holders) c.requires.seat.first ∙ c.args.self.now.holders) stands.within

pub give_node-requires-clause-can_give : goal.give_node-requires-clause-can_give
give_node-requires-clause-can_give c =
    let seat = c.args.seat.now in
    let held = c.requires.held in
    stands-can_give c.args.n seat.other seat.other seat.seat.me
    (last-first seat.seat.me.0.first seat.last seat.other c.args.n seat.seat.me.0.claimed seat.seat.me.1 held.node c.requires.seat.out seat.numbers held.has held.number c.requires.last)

pub invariant_of-seat : goal.invariant_of-seat
invariant_of-seat c =
    let seat = c.args.seat.now in
    let held = c.requires.held in
    let kept = given-after c.args.n seat.other seat.other seat.seat.me c.give_node.new.seat.me
    (last-first seat.seat.me.0.first seat.last seat.other c.args.n seat.seat.me.0.claimed seat.seat.me.1 held.node c.requires.seat.out seat.numbers held.has held.number c.requires.last) c.give_node.ensures.given seat.used in
    record { counted = seat.counted ∙ sym kept.left; used = kept.used; numbers = kept.numbers }

pub returns-clause-seat : goal.returns-clause-seat
returns-clause-seat c =
    let seat = c.args.seat.now in
    let held = c.requires.held in
    let kept = given-after c.args.n seat.other seat.other seat.seat.me c.give_node.new.seat.me
    (last-first seat.seat.me.0.first seat.last seat.other c.args.n seat.seat.me.0.claimed seat.seat.me.1 held.node c.requires.seat.out seat.numbers held.has held.number c.requires.last) c.give_node.ensures.given seat.used in
    record { table_id = c.give_node.ensures.table ∙ c.requires.seat.table_id; first = ap (λ (v : View). v.first) c.give_node.ensures.given.view ∙ c.requires.seat.first; out = kept.out }

pub returns-clause-given : goal.returns-clause-given
returns-clause-given c =
    let seat = c.args.seat.now in
    let held = c.requires.held in
    given-says c.args.n seat.other seat.other seat.last seat.other seat.seat.me c.give_node.new.seat.me seat.numbers
    (last-first seat.seat.me.0.first seat.last seat.other c.args.n seat.seat.me.0.claimed seat.seat.me.1 held.node c.requires.seat.out seat.numbers held.has held.number c.requires.last) c.give_node.ensures.given
