-- The nodes that a seat holds in the middle of a turn.
use Rattle.std.specs.Prelude.{◌≡◌, ℕ, ◌<◌, List, [], ◌∷◌, length, Option, Some, None}
use Rattle.lio_values.specs.declared.entry.Entry.{Entry}
use Rattle.lio_cells.specs.declared.waiter.Waiter.{Waiter}
use Rattle.lio_syntax.specs.Statements.{Procedure}
use Rattle.lio_calculus.specs.Step.{Configuration}
use Rattle.lio_task.specs.declared.config.Holder.{Holder}
use Rattle.lio_table.specs.declared.view.View.{View}
use Rattle.lio_table.specs.Views.{HasLog, StandIn}
use Rattle.lio_table.specs.Steps.{SeatState, with_node}
use Rattle.lio_table.specs.declared.table.Table.{Table}
use Rattle.lio_table.specs.declared.turn.TurnEnd.{TurnEnd}
use Rattle.lio_table.specs.declared.turn.TurnEnd.TheVariants.{Moved}
use Rattle.lio_table.specs.Tables.{first_of}
use Rattle.lio_table.specs.Turns.{TurnRefused, TurnSays, drawn_after}

-- Task k of a table may take its turn by a script, on a seat that has a ticket left: the seat knows what the table began with, and the script is that.
pub record IsInTurn (table : Table) (script : List Procedure) (k : ℕ) (seat : SeatState) : Type 0 where
  pub first : seat.0.first ≡ first_of table
  pub script_is : script ≡ (first_of table).script
  pub left : 0 < seat.0.left
  pub node : k < table.len

-- A seat that held nothing has claimed node k alone, and has taken this holder out of its slot.
pub record HasOne (before : View) (k : ℕ) (holder : Holder) (seat : SeatState) : Type 0 where
  pub bare : before.claimed ≡ []
  pub view : seat.0 ≡ with_node k holder before
  pub slots : seat.1 ≡ (k, None) ∷ []
  pub has_log : HasLog before.first k holder.node.log holder
  pub whole : Configuration
  pub stand : StandIn seat.0 whole

-- A seat that held nothing has claimed node k, then n, and has taken these holders out of their slots.
pub record HasTwo (before : View) (k n : ℕ) (holder met : Holder) (seat : SeatState) : Type 0 where
  pub bare : before.claimed ≡ []
  pub apart : k ≡ n → ⊥
  pub within : n < length before.first.holders
  pub view : seat.0 ≡ with_node n met (with_node k holder before)
  pub slots : seat.1 ≡ (n, None) ∷ (k, None) ∷ []
  pub has_log : HasLog before.first k holder.node.log holder
  pub met_has_log : HasLog before.first n met.node.log met
  pub whole : Configuration
  pub stand : StandIn seat.0 whole

-- what a turn answers, after which no slot is out with the seat, with the turn's entry
abbrev pub EndsTurn : ℕ → View → TurnEnd → Entry → SeatState → Type 0
EndsTurn k before end entry seat = TurnSays k before end seat.0 × (seat.1 ≡ []) × (seat.0.drawn ≡ drawn_after end entry before.drawn)

-- what holds after a refusal of memory, after which no slot is out with the seat
abbrev pub RefusesTurn : ℕ → View → SeatState → Type 0
RefusesTurn k before seat = TurnRefused k before seat.0 × (seat.1 ≡ [])

-- those who are woken, if some are
abbrev pub woken_or : Option (List Waiter) → List Waiter
woken_or None = []
woken_or (Some waiters) = waiters

-- how many tickets a turn drew, by its answer
abbrev pub tickets_of : TurnEnd → ℕ
tickets_of (Moved ticket born woken) = 1
tickets_of end = 0
