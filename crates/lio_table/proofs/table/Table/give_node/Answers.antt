use Rattle.std.proofs.Common.{arith}
use Rattle.lio_table.specs.Views.{beginning_of}
use Rattle.lio_table.proofs.GiveKept.{give-kept}
use Rattle.lio_table.proofs.table.Table.give_node.Goals as goal

pub store-requires : goal.store-requires
store-requires c =
    let shared = c.args.self.now.nodes.shared in
    let words = c.args.self.now.words in
    let node = c.requires.node in (
      c.requires.table,
      omega (arith, words, node),
      give-kept (beginning_of shared.key) shared.table_id.slots c.args.seat.now.id c.args.n c.args.seat.now.me c.requires.some c.requires.can_give,
    )
