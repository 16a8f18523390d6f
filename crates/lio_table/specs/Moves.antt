-- What a turn of a task makes of the seat that holds its node.
use Rattle.std.specs.Prelude.{◌≡◌, ℕ, ◌<◌, List, [], ◌∷◌, All, Option, Some, None, if◌then◌else◌}
use Rattle.lio_values.specs.declared.entry.Entry.{Entry}
use Rattle.lio_cells.specs.declared.waiter.Waiter.{Waiter}
use Rattle.lio_calculus.specs.Effect.{entry_in}
use Rattle.lio_calculus.specs.Step.{Configuration, cell_at}
use Rattle.lio_task.specs.declared.config.Holder.{Holder}
use Rattle.lio_task.specs.Turns.{ends, looks}
use Rattle.lio_table.specs.Views.{HoldsNode, StandIn}
use Rattle.lio_table.specs.Steps.{SeatState, with_given, with_ticket, with_turn}

-- A node that was taken with this holder was given back as it was: with the same log and waiters.
pub record ReturnsNode (n : ℕ) (holder : Holder) (old new : SeatState) : Type 0 where
  pub slots : old.1 ≡ (n, None) ∷ new.1
  pub holds : HoldsNode old.0 n
  pub view : new.0 ≡ with_given holds.node holder.node.waiters old.0

-- an entry is that of task k's turn with a ticket, in each sound configuration in which the nodes that a seat holds stand
abbrev pub IsTurnOf : ℕ → ℕ → SeatState → Entry → Type 0
IsTurnOf k ticket seat entry = (c : Configuration) → StandIn seat.0 c → entry_in c.program (cell_at c) ticket k ≡ Some (with_ticket entry ticket)

-- A turn that meets no other node: its entry has come last in the actor's log, its ticket is drawn for the actor and greater than all that the seat had
-- drawn and than those in the actor's log, and the actor's node was given back. The waiters that the node had are woken where the turn is the task's end.
pub record MovesAlone (k : ℕ) (holder : Holder) (old : SeatState) (ticket : ℕ) (entry : Entry) (taken : Option (List Waiter)) (new : SeatState) : Type 0 where
  pub shown : IsTurnOf k ticket old entry
  pub ticket_is : entry.ticket ≡ ticket
  pub actor : entry.actor ≡ k
  pub target : entry.target ≡ None
  pub later : All (λ before. before.ticket < ticket) old.0.drawn
  pub logs : All (λ before. before.ticket < ticket) holder.node.log
  pub slots : old.1 ≡ (k, None) ∷ new.1
  pub holds : HoldsNode (with_turn (with_ticket entry ticket) old.0) k
  pub view : new.0 ≡ with_given holds.node (if ends entry.act then [] else holder.node.waiters) (with_turn (with_ticket entry ticket) old.0)
  pub woken : taken ≡ (if ends entry.act then Some holder.node.waiters else None)

-- Two nodes that were taken with these holders were given back as they were, the met one first.
pub record ReturnsBoth (k n : ℕ) (holder met : Holder) (old new : SeatState) : Type 0 where
  pub slots : old.1 ≡ (n, None) ∷ (k, None) ∷ new.1
  pub target : HoldsNode old.0 n
  pub actor : HoldsNode old.0 k
  pub view : new.0 ≡ with_given actor.node holder.node.waiters (with_given target.node met.node.waiters old.0)

-- A turn that meets another node: its entry has come last in the actor's log and the target's, its ticket is drawn for the actor and greater than all that
-- the seat had drawn and than those in both logs, and both nodes were given back, the target first. The waiters that a node had are woken where the turn
-- changes it.
pub record MovesBoth (k n : ℕ) (holder met : Holder) (old : SeatState) (ticket : ℕ) (entry : Entry) (taken met_taken : Option (List Waiter)) (new : SeatState) : Type 0 where
  pub shown : IsTurnOf k ticket old entry
  pub ticket_is : entry.ticket ≡ ticket
  pub actor_is : entry.actor ≡ k
  pub target_is : entry.target ≡ Some n
  pub later : All (λ before. before.ticket < ticket) old.0.drawn
  pub logs : All (λ before. before.ticket < ticket) holder.node.log
  pub met_logs : All (λ before. before.ticket < ticket) met.node.log
  pub slots : old.1 ≡ (n, None) ∷ (k, None) ∷ new.1
  pub target : HoldsNode (with_turn (with_ticket entry ticket) old.0) n
  pub actor : HoldsNode (with_turn (with_ticket entry ticket) old.0) k
  pub view : new.0 ≡ with_given actor.node (if ends entry.act then [] else holder.node.waiters)
      (with_given target.node (if looks entry.act then met.node.waiters else []) (with_turn (with_ticket entry ticket) old.0))
  pub woken : taken ≡ (if ends entry.act then Some holder.node.waiters else None)
  pub met_woken : met_taken ≡ (if looks entry.act then None else Some met.node.waiters)
