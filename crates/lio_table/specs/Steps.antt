-- What the steps of a seat tell: a claim, a ticket that is drawn for a turn, and a node that is given back.
use Rattle.std.specs.Prelude.{◌≡◌, ℕ, ◌+◌, ◌-◌, ◌^◌, ◌<◌, ◌≤◌, ◌==◌, not, MatchBool, List, [], ◌∷◌, ◌++◌, All, Contains, filter, map, take, Option, Some, None}
use Rattle.lio_labels.specs.Extremes.{public}
use Rattle.lio_values.specs.declared.act.Act.TheVariants as act
use Rattle.lio_values.specs.declared.act.Reply.TheVariants as reply
use Rattle.lio_values.specs.declared.entry.Entry.{Entry}
use Rattle.lio_cells.specs.declared.waiter.Waiter.{Waiter}
use Rattle.lio_calculus.specs.Step.{Configuration, cell_at}
use Rattle.lio_calculus.specs.Effect.{entry_in}
use Rattle.lio_calculus.specs.Journals.{of_cell}
use Rattle.lio_task.specs.declared.config.Holder.{Holder}
use Rattle.atomic_table.specs.Table.{Me, Step}
use Rattle.lio_table.specs.declared.view.Claimed.{Claimed}
use Rattle.lio_table.specs.declared.view.View.{View}
use Rattle.lio_table.specs.Views.{HasLog, HoldsNode, StandIn, rights}

-- a seat: its view, and the slots that are out with it
abbrev pub SeatState : Type 0
SeatState = Me (Option Holder) View

-- the node whose word a step changes
abbrev pub node_of : Step (Option Holder) → ℕ
node_of step = step.word - 1

-- a view with one node more
abbrev pub with_node : ℕ → Holder → View → View
with_node n holder view = record view { claimed = record { number = n; log = holder.node.log; found = holder.node.waiters } ∷ view.claimed; taken = view.taken + 1 }

-- a view in which one node more was found taken
abbrev pub with_busy : ℕ → View → View
with_busy n view = record view { busy = view.busy + 1; noted = n }

-- A node was at home. The seat has it now: its holder stands for what its log makes of it, as do those of the other nodes that the seat holds.
pub record TakesNode (n : ℕ) (old new : SeatState) : Type 0 where
  pub holder : Holder
  pub slot : new.1 ≡ (n, Some holder) ∷ old.1
  pub view : new.0 ≡ with_node n holder old.0
  pub has_log : HasLog old.0.first n holder.node.log holder
  pub whole : Configuration
  pub stand : StandIn new.0 whole

-- A node was with another seat. A seat that has all tickets is never told so.
pub record FindsTaken (n : ℕ) (old new : SeatState) : Type 0 where
  pub seat : new ≡ (with_busy n old.0, old.1)
  pub not_alone : rights old.0 ≡ 2 ^ 62 → ⊥

-- a claim, by the word that it found
abbrev pub Claims : Step (Option Holder) → SeatState → ℕ → SeatState → Type 0
Claims step old found new = MatchBool (found == 0) (TakesNode (node_of step) old new) (FindsTaken (node_of step) old new)

-- an entry that shows nothing yet
abbrev pub blank_entry : Entry
blank_entry = record { ticket = 0; actor = 0; target = None; at = public; act = act.Step; reply = reply.Done }

-- an entry with a ticket
abbrev pub with_ticket : Entry → ℕ → Entry
with_ticket entry ticket = record entry { ticket = ticket }

-- a node in a view after a turn
abbrev pub with_entry : Entry → Claimed → Claimed
with_entry entry node = record node { log = node.log ++ of_cell node.number (entry ∷ []) }

-- a view after a turn: its ticket is drawn, and the entry has come last in the logs of the nodes that it shows
abbrev pub with_turn : Entry → View → View
with_turn entry view = record view {
  claimed = map (with_entry entry) view.claimed;
  drawn = entry ∷ view.drawn;
  left = view.left - 1;
}

-- An entry shows a turn that a seat can record, whatever its ticket: the seat holds the actor and its target, if there is one, and the entry is the
-- turn of its actor in each sound configuration in which the seat's nodes stand.
pub record CanRecord (entry : Entry) (view : View) : Type 0 where
  pub left : 0 < view.left
  pub apart : entry.target ≡ Some entry.actor → ⊥
  pub actor : HoldsNode view entry.actor
  pub target : (n : ℕ) → entry.target ≡ Some n → HoldsNode view n
  pub shown : (c : Configuration) → StandIn view c → (ticket : ℕ) → entry_in c.program (cell_at c) ticket entry.actor ≡ Some (with_ticket entry ticket)

-- A ticket is drawn for a turn. It is greater than those in the logs of the seat's nodes, and than those that the seat has drawn.
pub record DrawsTicket (entry : Entry) (old : SeatState) (ticket : ℕ) (new : SeatState) : Type 0 where
  pub seat : new ≡ (with_turn (with_ticket entry ticket) old.0, old.1)
  pub logs : (node : Claimed) → Contains old.0.claimed node → All (λ before. before.ticket < ticket) node.log
  pub draws : All (λ before. before.ticket < ticket) old.0.drawn
  pub below : ticket < 2 ^ 62

-- the same, of a step
abbrev pub Draws : Entry → Step (Option Holder) → SeatState → ℕ → SeatState → Type 0
Draws entry step old ticket new = DrawsTicket entry old ticket new

-- a look at word 0 changes nothing, and tells that a seat has some of all tickets
abbrev pub Looks : Step (Option Holder) → SeatState → ℕ → SeatState → Type 0
Looks step old found new = (new ≡ old) × (rights old.0 ≤ 2 ^ 62)

-- the nodes without the one with a number
abbrev pub without : ℕ → List Claimed → List Claimed
without n nodes = filter (λ node. not (node.number == n)) nodes

-- a view after a node was given back, at which these wait now
abbrev pub with_given : Claimed → List Waiter → View → View
with_given node waiters view = record view {
  claimed = without node.number view.claimed;
  given = record { number = node.number; log = node.log; waiters = waiters; found = node.found } ∷ take 1 view.given;
}

-- A seat can give node n back: it was taken out last, and its holder has the log that the view has, and stands for what this log makes of it.
pub record CanGive (n : ℕ) (seat : SeatState) : Type 0 where
  pub holder : Holder
  pub rest : List (ℕ × Option Holder)
  pub slot : seat.1 ≡ (n, Some holder) ∷ rest
  pub holds : HoldsNode seat.0 n
  pub has_log : HasLog seat.0.first n holds.node.log holder

-- A node is given back.
pub record GivesNode (n : ℕ) (old new : SeatState) : Type 0 where
  pub holder : Holder
  pub slot : old.1 ≡ (n, Some holder) ∷ new.1
  pub holds : HoldsNode old.0 n
  pub view : new.0 ≡ with_given holds.node holder.node.waiters old.0

-- the same, of a step
abbrev pub Gives : Step (Option Holder) → SeatState → ℕ → SeatState → Type 0
Gives step old found new = GivesNode (node_of step) old new
