-- Holders that are taken out of the slots of a seat's nodes, and put back.
use Rattle.std.specs.Prelude.{◌≡◌, ℕ, List, ◌∷◌, Option, None}
use Rattle.lio_calculus.specs.Step.{Configuration}
use Rattle.lio_task.specs.declared.config.Holder.{Holder}
use Rattle.lio_table.specs.declared.view.View.{View}
use Rattle.lio_table.specs.Views.{HasLog, HoldsNode, StandIn}
use Rattle.lio_table.specs.Steps.{SeatState, with_given, with_node}

-- A node is taken with its holder: its slot is out with the seat, and empty.
pub record TakesOut (n : ℕ) (old : SeatState) (holder : Holder) (new : SeatState) : Type 0 where
  pub view : new.0 ≡ with_node n holder old.0
  pub slots : new.1 ≡ (n, None) ∷ old.1
  pub has_log : HasLog old.0.first n holder.node.log holder
  pub whole : Configuration
  pub stand : StandIn new.0 whole

-- A holder can be put back: the node's slot was taken out last, and the holder has the log that the view has, and stands for what this log makes of it.
pub record CanPut (n : ℕ) (holder : Holder) (seat : SeatState) : Type 0 where
  pub rest : List (ℕ × Option Holder)
  pub slots : seat.1 ≡ (n, None) ∷ rest
  pub holds : HoldsNode seat.0 n
  pub has_log : HasLog seat.0.first n holds.node.log holder

-- A holder is put back, and its node is given back.
pub record PutsBack (n : ℕ) (holder : Holder) (old new : SeatState) : Type 0 where
  pub slots : old.1 ≡ (n, None) ∷ new.1
  pub holds : HoldsNode old.0 n
  pub view : new.0 ≡ with_given holds.node holder.node.waiters old.0

-- the nodes that a seat holds are cells of a sound configuration
abbrev pub Stand : View → Type 0
Stand view = (c : Configuration) × StandIn view c

-- Two holders can be put back: the met node was taken after the actor's, and each holder has the log that the view has.
pub record CanPutBoth (k n : ℕ) (holder met : Holder) (seat : SeatState) : Type 0 where
  pub apart : k ≡ n → ⊥
  pub rest : List (ℕ × Option Holder)
  pub slots : seat.1 ≡ (n, None) ∷ (k, None) ∷ rest
  pub actor : HoldsNode seat.0 k
  pub target : HoldsNode seat.0 n
  pub has_log : HasLog seat.0.first k actor.node.log holder
  pub met_has_log : HasLog seat.0.first n target.node.log met

-- Both are put back, and their nodes are given back, the met one first.
pub record PutsBoth (k n : ℕ) (holder met : Holder) (old new : SeatState) : Type 0 where
  pub slots : old.1 ≡ (n, None) ∷ (k, None) ∷ new.1
  pub target : HoldsNode old.0 n
  pub actor : HoldsNode old.0 k
  pub view : new.0 ≡ with_given actor.node holder.node.waiters (with_given target.node met.node.waiters old.0)
