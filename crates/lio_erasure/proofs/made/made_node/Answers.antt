use Rattle.std.proofs.Common.{◌∙◌, ap, Bool, ◌||◌}
use Rattle.lio_cells.specs.declared.state.State.{State}
use Rattle.lio_cells.specs.declared.state.State.TheVariants.{Absent}
use Rattle.lio_cells.specs.Node.{NodeState, takes_part}
use Rattle.lio_cells.specs.State.{is_job}
use Rattle.lio_erasure.proofs.ActLemmas.{made-ready}
use Rattle.lio_erasure.proofs.made.made_node.Goals as goal

pub renew-requires-clause-takes_part : goal.renew-requires-clause-takes_part
renew-requires-clause-takes_part c =
    ap (λ (s : State). takes_part s c.args.act.now) (ap (λ (node : NodeState). node.state) c.in-Ok.ensures.ok ∙ ap (λ (node : NodeState). node.state) c.of-node.ensures)
    ∙ ap (λ (b : Bool). b || is_job Absent) (made-ready c.args.act.now c.requires)
