use Rattle.std.proofs.Common.{◌∙◌, ap}
use Rattle.lio_cells.specs.Log.{LogState, first_of}
use Rattle.lio_cells.specs.Node.{NodeState}
use Rattle.lio_cells.specs.State.{state_after}
use Rattle.lio_cells.proofs.RoomLemmas.{served-state}
use Rattle.lio_cells.proofs.NodeLemmas.{fresh-node, kept-fresh, none-keeps, node_with}
use Rattle.lio_cells.proofs.node.Node.renew.Goals as goal

pub invariant_of-self : goal.invariant_of-self
invariant_of-self c =
    let log : LogState = c.clear.new.self in (
      kept-fresh c.serve.new.state log.first log.served c.clear-2.new.self c.serve.new.room log.pending (ap (λ (l : LogState). l.first) c.clear.ensures) (ap (λ (l : LogState). l.served) c.clear.ensures) c.clear-2.ensures,
      none-keeps log (ap (λ (l : LogState). l.pending) c.clear.ensures),
    )

pub returns : goal.returns
returns c =
    let node = c.args.self.now in
    let inside = c.self.inside in
    let log : LogState = c.clear.new.self in
    ap (node_with c.serve.new.state (first_of log.first c.serve.new.state) log.served c.clear-2.new.self c.serve.new.room) (ap (λ (l : LogState). l.pending) c.clear.ensures)
    ∙ fresh-node c.serve.new.state (state_after node.state c.args.act.now) log.first log.served c.clear-2.new.self c.serve.new.room
    (served-state node.state inside.state c.serve.new.state inside.room c.args.act.now (ap (λ (n : NodeState). n.state) c.self.view_is)
    (ap (λ (n : NodeState). n.room) c.self.view_is ∙ c.requires.reserved) c.serve.ensures.state)
    (ap (λ (l : LogState). l.first) c.clear.ensures) (ap (λ (l : LogState). l.served) c.clear.ensures) c.clear-2.ensures c.serve.ensures.room
