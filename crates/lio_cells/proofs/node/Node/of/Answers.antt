use Rattle.std.proofs.Common.{ap}
use Rattle.lio_cells.specs.Log.{LogState}
use Rattle.lio_cells.specs.declared.room.Room.TheVariants.{Nothing}
use Rattle.lio_cells.proofs.NodeLemmas.{kept-fresh, none-keeps}
use Rattle.lio_cells.proofs.node.Node.of.Goals as goal

pub invariant_of-result : goal.invariant_of-result
invariant_of-result c =
    let log : LogState = c.new.result in (
      kept-fresh c.args.state log.first log.served c.new-2.result Nothing log.pending (ap (λ (l : LogState). l.first) c.new.ensures) (ap (λ (l : LogState). l.served) c.new.ensures) c.new-2.ensures,
      none-keeps log (ap (λ (l : LogState). l.pending) c.new.ensures),
    )
