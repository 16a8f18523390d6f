use Rattle.std.proofs.Common.{◌≡◌, ◌∙◌, refl, sym, ap, subst, None, Some}
use Rattle.std.specs.Prelude.{IsSome}
use Rattle.lio_values.specs.declared.entry.Entry.{Entry}
use Rattle.lio_cells.specs.Log.{LogState, first_of}
use Rattle.lio_cells.specs.Node.{IsKept, NodeState, served_node}
use Rattle.lio_cells.specs.State.{state_after}
use Rattle.lio_cells.proofs.RoomLemmas.{served-state}
use Rattle.lio_cells.proofs.NodeLemmas.{kept-served, node_with, none-keeps, served-parts, the-pending}
use Rattle.lio_cells.proofs.node.Node.serve.Goals as goal

is-pending : (c : goal.After-serve-2) → c.self.inside.log.pending ≡ Some c.requires.entry
is-pending c = ap (λ (n : NodeState). n.pending) c.self.view_is ∙ c.requires.is_ready.pending

nothing-pending : (c : goal.After-serve-2) → c.serve-2.new.self.pending ≡ None
nothing-pending c = ap (λ (l : LogState). l.pending) (c.serve-2.ensures c.requires.entry (is-pending c))

-- the node after the turn, as contracts see it
after : (c : goal.After-serve-2) → node_with c.serve.new.state (first_of c.serve-2.new.self.first c.serve.new.state) c.serve-2.new.self.served c.self.inside.waiters c.serve.new.room c.serve-2.new.self.pending ≡ served_node c.args.self.now c.requires.entry c.args.ticket
after c =
    let node = c.args.self.now in
    let inside = c.self.inside in
    let entry = c.requires.entry in
    let log = c.serve-2.new.self in
    let log_is = c.serve-2.ensures entry (is-pending c) in
    let some : IsSome inside.log.first = c.self.invariant.1 (subst IsSome (sym (is-pending c)) refl) in
    let made : c.serve.new.state ≡ state_after node.state entry.act =
    served-state node.state inside.state c.serve.new.state inside.room entry.act (ap (λ (n : NodeState). n.state) c.self.view_is) (ap (λ (n : NodeState). n.room) c.self.view_is ∙ c.requires.is_ready.room) c.serve.ensures.state in
    ap (node_with c.serve.new.state (first_of log.first c.serve.new.state) log.served inside.waiters c.serve.new.room) (nothing-pending c)
    ∙ served-parts node entry c.args.ticket inside.state c.serve.new.state inside.log.first log.first inside.log.served log.served inside.waiters inside.room c.serve.new.room inside.log.pending
    c.self.view_is made (ap (λ (l : LogState). l.first) log_is) some (ap (λ (l : LogState). l.served) log_is) c.serve.ensures.room

pub invariant_of-self : goal.invariant_of-self
invariant_of-self c = (
  subst IsKept (sym (after c)) (kept-served c.args.self.now c.requires.entry c.args.ticket (subst IsKept c.self.view_is c.self.invariant.0) c.requires.later c.requires.nobody),
  none-keeps c.serve-2.new.self (nothing-pending c),
)

pub returns : goal.returns
returns c = λ entry is.
    after c ∙ ap (λ (e : Entry). served_node c.args.self.now e c.args.ticket) (the-pending c.requires.entry entry c.args.self.now.pending c.requires.is_ready.pending is)
