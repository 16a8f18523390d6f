use Rattle.std.proofs.Common.{arith}
use Rattle.lio_table.specs.Views.{beginning_of}
use Rattle.lio_table.proofs.ClaimKept.{claim-kept}
use Rattle.lio_table.proofs.table.Table.claim_node.Goals as goal

pub compare_exchange-requires : goal.compare_exchange-requires
compare_exchange-requires c =
    let shared = c.args.self.now.nodes.shared in
    let words = c.args.self.now.words in
    let slots = c.args.self.now.slots in
    let node = c.requires.node in (
      c.requires.table,
      omega (arith, words, node),
      claim-kept (beginning_of shared.key) shared.table_id.slots c.args.seat.now.id c.args.n c.args.seat.now.me c.requires.some (omega (arith, slots, node)) c.requires.not_held,
    )
