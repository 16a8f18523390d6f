-- Tasks that wait at a node for what it isn't ready for.
use Rattle.std.specs.Prelude.{◌≡◌, ℕ, List, ◌∷◌, None}
use Rattle.lio_values.specs.declared.act.Act.{Act}
use Rattle.lio_values.specs.declared.act.Act.TheVariants as act
use Rattle.lio_cells.specs.declared.waiter.Waiter.{Waiter}
use Rattle.lio_cells.specs.declared.wish.Wish.{Wish}
use Rattle.lio_cells.specs.declared.wish.Wish.TheVariants as wish
use Rattle.lio_cells.specs.Node.{with_waiter}
use Rattle.lio_task.specs.declared.config.Holder.{Holder}
use Rattle.lio_table.specs.Views.{HoldsNode}
use Rattle.lio_table.specs.Steps.{SeatState, with_given}

-- a task that waits for something
abbrev waiter : ℕ → Wish → Waiter
waiter k wish = record { task = k; wish = wish }

-- who waits at a node once it wasn't ready for what task k's turn asks: a full variable, an empty one, or the end of a task
abbrev pub waiting_with : ℕ → Act → List Waiter → List Waiter
waiting_with k act.Take waiters = with_waiter waiters (waiter k wish.Take)
waiting_with k (act.Put value) waiters = with_waiter waiters (waiter k wish.Put)
waiting_with k act.Wait waiters = with_waiter waiters (waiter k wish.Wait)
waiting_with k asked waiters = waiters

-- a holder at whose node task k waits besides
abbrev pub waited_at : Holder → ℕ → Act → Holder
waited_at holder k asked = record holder { node = record holder.node { waiters = waiting_with k asked holder.node.waiters } }

-- Two nodes that were taken with these holders were given back, the met one first. Task k waits at the met one from then on.
pub record LeavesBoth (k n : ℕ) (holder met : Holder) (asked : Act) (old new : SeatState) : Type 0 where
  pub slots : old.1 ≡ (n, None) ∷ (k, None) ∷ new.1
  pub target : HoldsNode old.0 n
  pub actor : HoldsNode old.0 k
  pub view : new.0 ≡ with_given actor.node holder.node.waiters (with_given target.node (waiting_with k asked met.node.waiters) old.0)
