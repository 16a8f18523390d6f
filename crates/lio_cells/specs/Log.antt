-- What a log of entries makes of a node's state.
use Rattle.std.specs.Prelude.{◌≡◌, ℕ, ◌-◌, ◌<◌, Bool, true, false, List, [], ◌∷◌, length, take, slice_get, Option, Some, None, IsSome}
use Rattle.lio_values.specs.declared.entry.Entry.{Entry}
use Rattle.lio_cells.specs.declared.state.State.{State}
use Rattle.lio_cells.specs.State.{state_after}

-- a state after the acts of these entries in order
unfoldable pub folded : State → List Entry → State
folded state [] = state
folded state (entry ∷ log) = folded (state_after state entry.act) log

-- the state that a node began with: the one that was kept, or else the one that it has, since its log has no entry
abbrev pub first_of : Option State → State → State
first_of None state = state
first_of (Some first) state = first

-- A log as contracts see it: the state that its node began with, where it is kept, the entries that were served, and the one that is pending.
pub record LogState : Type 0 where
  pub first : Option State
  pub served : List Entry
  pub pending : Option Entry

-- the entries that were served, of those that are kept: the last one may be pending
abbrev pub served_of : Bool → List Entry → List Entry
served_of true entries = take (length entries - 1) entries
served_of false entries = entries

-- the entry that is pending, if the last one is
abbrev pub pending_of : Bool → List Entry → Option Entry
pending_of true entries = slice_get entries (length entries - 1)
pending_of false entries = None

-- where the last entry is pending there is one
abbrev pub HasLast : Bool → List Entry → Type 0
HasLast pending entries = pending ≡ true → 0 < length entries

-- an entry with its ticket
abbrev pub with_ticket : Entry → ℕ → Entry
with_ticket entry ticket = record entry { ticket = ticket }

-- where an entry is pending, the state that its node began with is kept
abbrev pub KeepsFirst : LogState → Type 0
KeepsFirst log = IsSome log.pending → IsSome log.first
