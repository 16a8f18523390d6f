-- The laws of the rule: each step keeps it, and leaves its journal as it was or adds the entry of a turn to it; a fresh table meets it, and of a closed one it
-- tells a run.
use Rattle.std.specs.Prelude.{◌≡◌, ℕ, ◌+◌, ◌%◌, ◌^◌, ◌<◌, ◌≤◌, ◌==◌, List, [], ◌∷◌, ◌++◌, length, map, slice_index, Option, Some}
use mathlib.Core.Option.{none, some}
use lib.ListN.{get_elem?}
use prog.Atomic.{either}
use Rattle.atomic_table.specs.Table.{Act, Allows, Final, Joins, Seen, Splits, Valid, carried_after, step, stepped}
use Rattle.lio_values.specs.declared.entry.Entry.{Entry}
use Rattle.lio_calculus.specs.Run.{Ran, run}
use Rattle.lio_calculus.specs.Step.{Configuration}
use Rattle.lio_calculus.specs.Sound.{IsSound}
use Rattle.lio_calculus.specs.Logs.{Logs}
use Rattle.lio_task.specs.declared.config.Holder.{Holder}
use Rattle.lio_task.specs.Logs.{HaveNoLogs}
use Rattle.lio_table.specs.declared.view.Beginning.{Beginning}
use Rattle.lio_table.specs.declared.view.View.{View}
use Rattle.lio_table.specs.Views.{HoldsNode, StandIn, configuration_from, rights}
use Rattle.lio_table.specs.Rule.{AreTurns, Keeps, KeepsWith, TableState}
use Rattle.lio_table.specs.Logs.{AreLogsOf, HaveRunSoFar}
use Rattle.lio_table.specs.Steps.{CanGive, CanRecord, Claims, Draws, DrawsTicket, Gives, Looks, SeatState, with_ticket}
use Rattle.lio_table.specs.Cuts.{cut_left, cut_right, joined, spent}
use Rattle.lio_table.specs.Ends.{HasRun, fresh_table}

-- a seat that has a ticket drawn or left may claim a node that it doesn't hold, by what holds of a table between steps
abbrev pub ClaimsUnder : (TableState → Type 0) → Type 0
ClaimsUnder holds = (slots id n : ℕ) (me : SeatState) → 0 < rights me.0 → n < slots → (HoldsNode me.0 n → ⊥)
    → Allows holds slots id me (n + 1) (λ found. either (found == 0) 1 found) (Claims (step slots (n + 1) 0 1 none) me)

-- a seat that has a ticket drawn or left may give back the node that it took out last
abbrev pub GivesUnder : (TableState → Type 0) → Type 0
GivesUnder holds = (slots id n : ℕ) (me : SeatState) → 0 < rights me.0 → CanGive n me
    → Allows holds slots id me (n + 1) (λ found. 0) (λ found. Gives (step slots (n + 1) 0 0 none) me 0)

-- any seat may look at word 0
abbrev pub LooksUnder : (TableState → Type 0) → Type 0
LooksUnder holds = (slots id : ℕ) (me : SeatState) → Allows holds slots id me 0 (λ found. found) (Looks (step slots 0 0 0 none) me)

-- a seat may be cut in two, where the new one gets a ticket at least and the old one keeps one
abbrev pub SplitsUnder : (TableState → Type 0) → Type 0
SplitsUnder holds = (id : ℕ) (view : View) (tickets : ℕ) → 1 ≤ tickets → tickets < view.left
    → Splits holds id view (cut_left tickets view) (cut_right tickets view)

-- a seat that has a ticket drawn or left may take in another that holds no node
abbrev pub JoinsUnder : (TableState → Type 0) → Type 0
JoinsUnder holds = (id : ℕ) (view : View) (other : ℕ) (its : View) → 0 < rights view → its.claimed ≡ []
    → Joins holds id view other its (joined view its) spent

-- a claim keeps the rule
abbrev pub ClaimKeepsTheRule : Type 0
ClaimKeepsTheRule = (first : Beginning) → ClaimsUnder (Keeps first)

-- a seat may draw a ticket for a turn that it can record
abbrev pub TicketKeepsTheRule : Type 0
TicketKeepsTheRule = (first : Beginning) (slots id : ℕ) (me : SeatState) (entry : Entry) → CanRecord entry me.0
    → Allows (Keeps first) slots id me 0 (λ found. (found + 1) % 2 ^ 64) (Draws entry (step slots 0 1 0 none) me)

-- a node that is given back keeps the rule
abbrev pub GiveKeepsTheRule : Type 0
GiveKeepsTheRule = (first : Beginning) → GivesUnder (Keeps first)

-- a look at word 0 keeps the rule
abbrev pub LookKeepsTheRule : Type 0
LookKeepsTheRule = (first : Beginning) → LooksUnder (Keeps first)

-- a seat that is cut in two keeps the rule
abbrev pub SplitKeepsTheRule : Type 0
SplitKeepsTheRule = (first : Beginning) → SplitsUnder (Keeps first)

-- two seats that are made one keep the rule
abbrev pub JoinKeepsTheRule : Type 0
JoinKeepsTheRule = (first : Beginning) → JoinsUnder (Keeps first)

-- Each step but a ticket leaves the journal as it was: what kept the rule with a journal keeps it with the same after the step.
pub record StepsLeaveTheJournal : Type 0 where
  pub claim : (first : Beginning) (journal : List Entry) → ClaimsUnder (KeepsWith first journal)
  pub give : (first : Beginning) (journal : List Entry) → GivesUnder (KeepsWith first journal)
  pub look : (first : Beginning) (journal : List Entry) → LooksUnder (KeepsWith first journal)
  pub split : (first : Beginning) (journal : List Entry) → SplitsUnder (KeepsWith first journal)
  pub join : (first : Beginning) (journal : List Entry) → JoinsUnder (KeepsWith first journal)

-- A ticket adds the entry of its turn to the journal, last and with the ticket, and changes nothing else in it.
abbrev pub TicketAddsItsEntry : Type 0
TicketAddsItsEntry = (first : Beginning) (journal : List Entry) (slots id : ℕ) (me : SeatState) (entry : Entry) → CanRecord entry me.0
    → (s : TableState) → KeepsWith first journal s → length s.homes ≡ slots → get_elem? s.views id ≡ some me.0
    → (w : View) × (a : Act (Option Holder)) × Valid s.homes me.1 a
    × KeepsWith first (journal ++ with_ticket entry (slice_index s.words 0) ∷ []) (stepped s 0 ((slice_index s.words 0 + 1) % 2 ^ 64) id me.1 w a)
    × DrawsTicket entry me (slice_index s.words 0) (w, carried_after me.1 a)

-- At each moment the logs in slots and views are logs of turns from where the table began, and the rule's journal is their merge, and so a run.
abbrev pub LogsAreLogged : Type 0
LogsAreLogged = (first : Beginning) (s : TableState) (kept : Keeps first s)
    → ((logs : Logs) × AreLogsOf s logs) × ((logs : Logs) → AreLogsOf s logs → HaveRunSoFar first s kept.journal logs)

-- each run from a sound configuration is a journal that the rule allows a table which begins with it
abbrev pub RunsAreTurns : Type 0
RunsAreTurns = (c : Configuration) (ks : List ℕ) (ran : Ran) → IsSound c → run 0 c ks ≡ Some ran → AreTurns c ran.entries

-- at each moment the nodes that a seat holds are cells of a sound configuration
abbrev pub SeatsNodesStand : Type 0
SeatsNodesStand = (first : Beginning) (s : TableState) (id : ℕ) (view : View) → Keeps first s → get_elem? s.views id ≡ some view → 0 < rights view → (c : Configuration) × StandIn view c

-- a table that begins with a sound configuration in which no node has served a turn
abbrev pub FreshTableMeetsTheRule : Type 0
FreshTableMeetsTheRule = (first : Beginning) → IsSound (configuration_from first) → HaveNoLogs first.holders → Keeps first (fresh_table first)

-- a table that is closed by a seat that has all tickets and holds no node: each slot has its holder, and the rule's journal is what has run
abbrev pub ClosedTableHasRun : Type 0
ClosedTableHasRun = (first : Beginning) (journal : List Entry) (id : ℕ) (view : View) (words : List ℕ) (slots : List (Option Holder))
    → Final (Seen (KeepsWith first journal) id view) words slots → rights view ≡ 2 ^ 62 → view.claimed ≡ []
    → (holders : List Holder) × (slots ≡ map Some holders) × ((ran : HasRun first view holders) × (ran.journal ≡ journal))
