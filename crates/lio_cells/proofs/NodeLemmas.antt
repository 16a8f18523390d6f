-- A node after an entry more.
use Rattle.std.proofs.Common.{◌≡◌, ◌∙◌, refl, sym, ap, subst, ◌⊎◌, inl, inr, ℕ, false, List, [], ◌∷◌, ◌++◌, All, Option, Some, None, arith}
use Rattle.std.specs.Prelude.{IsSome}
use Rattle.std.proofs.lemmas.List.Elements.{All-nil}
use Rattle.lio_values.specs.declared.entry.Entry.{Entry}
use Rattle.lio_events.specs.Rising.{IsLater}
use Rattle.lio_events.proofs.RisingLemmas.{rising_with}
use Rattle.lio_cells.specs.declared.room.Room.{Room}
use Rattle.lio_cells.specs.declared.room.Room.TheVariants.{Nothing}
use Rattle.lio_cells.specs.declared.state.State.{State}
use Rattle.lio_cells.specs.declared.waiter.Waiter.{Waiter}
use Rattle.lio_cells.specs.State.{grants, state_after}
use Rattle.lio_cells.specs.Log.{KeepsFirst, LogState, first_of, folded, with_ticket}
use Rattle.lio_cells.specs.Node.{IsKept, NodeState, node_of, served_node}

-- a state that is kept is the first one, whatever the state is now
pub first-kept : (first : Option State) (one other : State) → IsSome first → first_of first one ≡ first_of first other
first-kept None one other kept = absurd (cc)
first-kept (Some state) one other kept = refl

-- the state after an entry more
pub folded-push : (state : State) (log : List Entry) (entry : Entry) → folded state (log ++ entry ∷ []) ≡ state_after (folded state log) entry.act
unfolding folded
folded-push state [] entry = refl
folded-push state (x ∷ log) entry = folded-push (state_after state x.act) log entry

pub kept-served : (node : NodeState) (entry : Entry) (ticket : ℕ) → IsKept node → IsLater node.log (with_ticket entry ticket) → (state_after node.state entry.act ≡ node.state) ⊎ (node.waiters ≡ []) → IsKept (served_node node entry ticket)
kept-served node entry ticket kept later nobody = record {
  folds = ap (λ state. state_after state entry.act) kept.folds ∙ sym (folded-push node.first node.log (with_ticket entry ticket));
  rising = rising_with node.log (with_ticket entry ticket) kept.rising later;
  waiting = by nobody;
}
  where
    by : (state_after node.state entry.act ≡ node.state) ⊎ (node.waiters ≡ []) → All (λ waiter. grants (state_after node.state entry.act) waiter.wish ≡ false) node.waiters
    by (inl same) = subst (λ state. All (λ (waiter : Waiter). grants state waiter.wish ≡ false) node.waiters) (sym same) kept.waiting
    by (inr none) = subst (λ waiters. All (λ (waiter : Waiter). grants (state_after node.state entry.act) waiter.wish ≡ false) waiters) (sym none) (All-nil (λ (waiter : Waiter). grants (state_after node.state entry.act) waiter.wish ≡ false))

kept-at : (state : State) (room : Room) (pending : Option Entry) → IsKept (record { state = state; first = state; log = []; waiters = []; room = room; pending = pending })
unfolding folded
kept-at state room pending = record {
  folds = refl;
  rising = λ i j d before within. absurd (omega arith);
  waiting = All-nil (λ (waiter : Waiter). grants state waiter.wish ≡ false);
}

-- a node that has served nothing, of its parts
pub kept-fresh : (state : State) (first : Option State) (log : List Entry) (waiters : List Waiter) (room : Room) (pending : Option Entry) → first ≡ None → log ≡ [] → waiters ≡ []
    → IsKept (record { state = state; first = first_of first state; log = log; waiters = waiters; room = room; pending = pending })
kept-fresh state first log waiters room pending first_is log_is waiters_is =
    subst (λ (f : Option State). IsKept (record { state = state; first = first_of f state; log = log; waiters = waiters; room = room; pending = pending })) (sym first_is)
    (subst (λ (es : List Entry). IsKept (record { state = state; first = state; log = es; waiters = waiters; room = room; pending = pending })) (sym log_is)
    (subst (λ (ws : List Waiter). IsKept (record { state = state; first = state; log = []; waiters = ws; room = room; pending = pending })) (sym waiters_is)
    (kept-at state room pending)))

-- where nothing is pending, no first state has to be kept
pub none-keeps : (log : LogState) → log.pending ≡ None → KeepsFirst log
none-keeps log none some = by log.pending none some
  where
    by : (pending : Option Entry) → pending ≡ None → IsSome pending → IsSome log.first
    by pending none some = absurd (cc)

-- a node as contracts see it, of its parts
abbrev pub node_with : State → State → List Entry → List Waiter → Room → Option Entry → NodeState
node_with state first log waiters room pending = record { state = state; first = first; log = log; waiters = waiters; room = room; pending = pending }

pub fresh-node : (state other : State) (first : Option State) (log : List Entry) (waiters : List Waiter) (room : Room) → state ≡ other → first ≡ None → log ≡ [] → waiters ≡ [] → room ≡ Nothing
    → node_with state (first_of first state) log waiters room None ≡ node_of other
fresh-node state other first log waiters room state_is first_is log_is waiters_is room_is =
    (λ i. node_with state (first_of (first_is i) state) (log_is i) (waiters_is i) (room_is i) None) ∙ ap node_of state_is

pub served-parts : (node : NodeState) (entry : Entry) (ticket : ℕ) (state made : State) (first after : Option State) (log more : List Entry) (waiters : List Waiter) (held room : Room) (pending : Option Entry)
    → node_with state (first_of first state) log waiters held pending ≡ node → made ≡ state_after node.state entry.act → after ≡ first → IsSome first → more ≡ log ++ with_ticket entry ticket ∷ [] → room ≡ Nothing
    → node_with made (first_of after made) more waiters room None ≡ served_node node entry ticket
served-parts node entry ticket state made first after log more waiters held room pending seen made_is after_is kept more_is room_is =
    let first_is : first_of after made ≡ node.first = ap (λ (f : Option State). first_of f made) after_is ∙ first-kept first made state kept ∙ ap (λ (n : NodeState). n.first) seen in
    let log_is : more ≡ node.log ++ with_ticket entry ticket ∷ [] = more_is ∙ ap (λ (n : NodeState). n.log ++ with_ticket entry ticket ∷ []) seen in
    let waiters_is : waiters ≡ node.waiters = ap (λ (n : NodeState). n.waiters) seen in
    λ i. node_with (made_is i) (first_is i) (log_is i) (waiters_is i) (room_is i) None

-- the entry that is pending
pub the-pending : (one two : Entry) (pending : Option Entry) → pending ≡ Some one → pending ≡ Some two → one ≡ two
the-pending one two pending is other = cc
