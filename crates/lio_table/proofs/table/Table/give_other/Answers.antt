use Rattle.std.proofs.Common.{◌∙◌, ap, subst, sym, ◌<◌, length}
use Rattle.lio_table.specs.declared.view.Beginning.{Beginning}
use Rattle.lio_table.specs.declared.view.View.{View}
use Rattle.lio_table.specs.Views.{rights}
use Rattle.lio_table.specs.Steps.{SeatState}
use Rattle.lio_table.specs.Claims.{GiveSays}
use Rattle.lio_table.specs.Seats.{HaveNumbers}
use Rattle.lio_table.proofs.SeatLemmas.{StandsFirst, given-after, given-says, other-first, stands-can_give}
use Rattle.lio_table.proofs.table.Table.give_other.Goals as goal

pub give_node-requires-clause-node : goal.give_node-requires-clause-node
give_node-requires-clause-node c =
    let seat = c.args.seat.now in
    let held = c.requires.held in
    let stands = other-first seat.seat.me.0.first seat.last seat.other c.args.n seat.seat.me.0.claimed seat.seat.me.1 held.node c.requires.seat.out seat.numbers held.has held.number c.requires.other in
    subst (λ l. c.args.n < l) (ap (λ (f : Beginning). length f.holders) c.requires.seat.first ∙ c.args.self.now.holders) stands.within

pub give_node-requires-clause-can_give : goal.give_node-requires-clause-can_give
give_node-requires-clause-can_give c =
    let seat = c.args.seat.now in
    let held = c.requires.held in
    let me = c.turn.new.self.me in
    stands-can_give c.args.n seat.last seat.other me
    (subst (λ (m : SeatState). StandsFirst m.0.first c.args.n seat.last seat.other m.0.claimed m.1) (sym c.turn.ensures.2)
    (other-first seat.seat.me.0.first seat.last seat.other c.args.n seat.seat.me.0.claimed seat.seat.me.1 held.node c.requires.seat.out seat.numbers held.has held.number c.requires.other))

pub invariant_of-seat : goal.invariant_of-seat
invariant_of-seat c =
    let seat = c.args.seat.now in
    let held = c.requires.held in
    let me = c.turn.new.self.me in
    let turned = c.turn.ensures.2 in
    let kept = given-after c.args.n seat.last seat.other me c.give_node.new.seat.me
    (subst (λ (m : SeatState). StandsFirst m.0.first c.args.n seat.last seat.other m.0.claimed m.1) (sym turned)
    (other-first seat.seat.me.0.first seat.last seat.other c.args.n seat.seat.me.0.claimed seat.seat.me.1 held.node c.requires.seat.out seat.numbers held.has held.number c.requires.other))
    c.give_node.ensures.given (subst (λ (m : SeatState). 0 < rights m.0) (sym turned) seat.used) in
    record { counted = seat.counted ∙ sym (kept.left ∙ ap (λ (m : SeatState). m.0.left) turned); used = kept.used; numbers = kept.numbers }

pub returns-clause-seat : goal.returns-clause-seat
returns-clause-seat c =
    let seat = c.args.seat.now in
    let held = c.requires.held in
    let me = c.turn.new.self.me in
    let turned = c.turn.ensures.2 in
    let kept = given-after c.args.n seat.last seat.other me c.give_node.new.seat.me
    (subst (λ (m : SeatState). StandsFirst m.0.first c.args.n seat.last seat.other m.0.claimed m.1) (sym turned)
    (other-first seat.seat.me.0.first seat.last seat.other c.args.n seat.seat.me.0.claimed seat.seat.me.1 held.node c.requires.seat.out seat.numbers held.has held.number c.requires.other))
    c.give_node.ensures.given (subst (λ (m : SeatState). 0 < rights m.0) (sym turned) seat.used) in
    record { table_id = c.give_node.ensures.table ∙ (c.turn.ensures.0 ∙ c.requires.seat.table_id); first = ap (λ (v : View). v.first) c.give_node.ensures.given.view ∙ (ap (λ (m : SeatState). m.0.first) turned ∙ c.requires.seat.first); out = kept.out }

pub returns-clause-given : goal.returns-clause-given
returns-clause-given c =
    let seat = c.args.seat.now in
    let held = c.requires.held in
    let me = c.turn.new.self.me in
    let turned = c.turn.ensures.2 in
    let says = given-says c.args.n seat.last seat.other seat.last seat.other me c.give_node.new.seat.me (subst (λ (m : SeatState). HaveNumbers seat.last seat.other m.0.claimed) (sym turned) seat.numbers)
    (subst (λ (m : SeatState). StandsFirst m.0.first c.args.n seat.last seat.other m.0.claimed m.1) (sym turned)
    (other-first seat.seat.me.0.first seat.last seat.other c.args.n seat.seat.me.0.claimed seat.seat.me.1 held.node c.requires.seat.out seat.numbers held.has held.number c.requires.other))
    c.give_node.ensures.given in
    subst (λ (v : View). GiveSays c.args.n v c.give_node.new.seat.me.0) (ap (λ (m : SeatState). m.0) turned) says
