use Rattle.std.proofs.Common.{arith, subst, ◌<◌, ◌≤◌, ℕ}
use Rattle.lio_table.specs.Views.{beginning_of}
use Rattle.lio_table.proofs.CutsKept.{split-kept}
use Rattle.lio_table.proofs.table.Table.split_share.Goals as goal

pub split_seat-new-requires : goal.split_seat-new-requires
split_seat-new-requires g c =
    let shared = c.args.self.now.nodes.shared in
    let words = c.args.self.now.words in
    let seat = c.args.seat.now.seat in (
      c.requires.seat.table_id,
      omega (arith, words),
      split-kept (beginning_of shared.key) seat.id seat.me.0 g.K.Share.tickets (subst (λ (n : ℕ). 1 ≤ n) c.requires.share c.requires.some) (subst (λ (n : ℕ). n < seat.me.0.left) c.requires.share c.requires.left),
    )
