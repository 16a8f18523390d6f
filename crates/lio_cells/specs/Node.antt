-- A node as contracts see it.
use Rattle.std.specs.Prelude.{◌≡◌, ◌⊎◌, ℕ, ◌<◌, Bool, true, false, ◌==◌, ◌&&◌, ◌||◌, List, [], ◌∷◌, ◌++◌, All, IsTrue, Option, Some, None, if◌then◌else◌}
use Rattle.std.specs.List.{list_any}
use Rattle.lio_values.specs.declared.act.Act.{Act}
use Rattle.lio_values.specs.declared.entry.Entry.{Entry}
use Rattle.lio_events.specs.Rising.{AreRising}
use Rattle.lio_cells.specs.declared.state.State.{State}
use Rattle.lio_cells.specs.declared.room.Room.{Room}
use Rattle.lio_cells.specs.declared.room.Room.TheVariants.{Nothing}
use Rattle.lio_cells.specs.declared.wish.Wish.{Wish}
use Rattle.lio_cells.specs.declared.wish.Wish.TheVariants as wish
use Rattle.lio_cells.specs.declared.waiter.Waiter.{Waiter}
use Rattle.lio_cells.specs.State.{ready, grants, is_job, state_after}
use Rattle.lio_cells.specs.Room.{room_for}
use Rattle.lio_cells.specs.Log.{folded, with_ticket}

-- What a node holds, the state that it began with, the entries that it has served since, who waits at it, and what it keeps ready for a turn: what
-- its act will put into the state, and the turn's entry, which comes into the log as soon as the turn has its ticket.
pub record NodeState : Type 0 where
  pub state : State
  pub first : State
  pub log : List Entry
  pub waiters : List Waiter
  pub room : Room
  pub pending : Option Entry

-- a node of this state, which has served nothing, at which nobody waits, and which keeps nothing ready
abbrev pub node_of : State → NodeState
node_of state = record { state = state; first = state; log = []; waiters = []; room = Nothing; pending = None }

-- a node that keeps nothing ready
abbrev pub at_rest : NodeState → NodeState
at_rest node = record node { room = Nothing; pending = None }

-- whether an act may change a node: the node is ready for it, or is the actor's own
abbrev pub takes_part : State → Act → Bool
takes_part state act = ready state act || is_job state

-- a node keeps ready what a turn with this entry needs of it
pub record IsReadyFor (node : NodeState) (entry : Entry) : Type 0 where
  pub pending : node.pending ≡ Some entry
  pub room : node.room ≡ room_for node.state entry.act

-- A node may serve, with this ticket, the turn for which it is ready.
pub record MayServe (node : NodeState) (ticket : ℕ) : Type 0 where
  pub entry : Entry
  pub is_ready : IsReadyFor node entry
  pub takes_part : IsTrue (takes_part node.state entry.act)
  -- the ticket is later than those in the log
  pub later : All (λ before. before.ticket < ticket) node.log
  -- where its state changes nobody waits at it
  pub nobody : (state_after node.state entry.act ≡ node.state) ⊎ (node.waiters ≡ [])

-- a node that has served a turn with this entry and ticket, and keeps nothing ready
abbrev pub served_node : NodeState → Entry → ℕ → NodeState
served_node node entry ticket = record (at_rest node) { state = state_after node.state entry.act; log = node.log ++ with_ticket entry ticket ∷ [] }

-- What each node keeps.
pub record IsKept (node : NodeState) : Type 0 where
  -- its state is what its log makes of its first state
  pub folds : node.state ≡ folded node.first node.log
  -- tickets in its log rise
  pub rising : AreRising node.log
  -- nobody waits at it for what it grants
  pub waiting : All (λ waiter. grants node.state waiter.wish ≡ false) node.waiters

-- whether two waiters are the same
abbrev pub is_wish : Wish → Wish → Bool
is_wish wish.Take wish.Take = true
is_wish wish.Put wish.Put = true
is_wish wish.Wait wish.Wait = true
is_wish one other = false

abbrev pub is_waiter : Waiter → Waiter → Bool
is_waiter one other = (one.task == other.task) && is_wish one.wish other.wish

-- waiters with one more, unless it is there
abbrev pub with_waiter : List Waiter → Waiter → List Waiter
with_waiter waiters waiter = if list_any (is_waiter waiter) waiters then waiters else waiters ++ waiter ∷ []
