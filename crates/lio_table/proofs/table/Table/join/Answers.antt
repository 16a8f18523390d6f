use Rattle.std.proofs.Common.{arith, ◌∙◌}
use Rattle.lio_table.specs.Views.{beginning_of}
use Rattle.lio_table.proofs.CutsKept.{join-kept}
use Rattle.lio_table.proofs.MomentLemmas.{look-kept}
use Rattle.lio_table.proofs.SeatLemmas.{bare-slots}
use Rattle.lio_table.proofs.table.Table.join.Goals as goal

pub join_seat-requires : goal.join_seat-requires
join_seat-requires c =
    let shared = c.args.self.now.nodes.shared in
    let words = c.args.self.now.words in
    let seat = c.args.seat.now.seat in
    let its = c.args.other.seat in (
      c.requires.seats.0.table_id,
      c.requires.seats.1.table_id,
      bare-slots its.me.0.first its.me.0.claimed its.me.1 c.requires.seats.1.out c.requires.other_bare,
      omega (arith, words),
      join-kept (beginning_of shared.key) seat.id seat.me.0 its.id its.me.0 c.args.seat.now.used c.requires.other_bare,
    )

pub load-requires : goal.load-requires
load-requires c =
    let shared = c.args.self.now.nodes.shared in
    let words = c.args.self.now.words in
    let seat = c.join_seat.new.seat in (
      c.join_seat.ensures.0 ∙ c.requires.seats.0.table_id,
      omega (arith, words),
      look-kept (beginning_of shared.key) shared.table_id.slots seat.id seat.me,
    )
