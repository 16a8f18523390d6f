-- The rule of a table of nodes that threads share. Word 0 is the next ticket, word n + 1 is 0 while node n is at home and 1 while a seat holds it,
-- and slot n has its holder while it is at home. The entries of all turns, in the order of their tickets, are the journal; a node's log is its part of it.
use Rattle.std.specs.Prelude.{◌≡◌, ℕ, ◌+◌, ◌^◌, ◌<◌, ◌≤◌, Bool, List, [], length, slice_index, Contains, Option, Some, None}
use Rattle.std.specs.List.{count_by, sum_by}
use mathlib.Core.Option.{none, some}
use lib.ListN.{get_elem?}
use Rattle.atomic_table.specs.Table.{State}
use Rattle.lio_values.specs.declared.entry.Entry.{Entry}
use Rattle.lio_calculus.specs.Step.{Configuration}
use Rattle.lio_calculus.specs.Sound.{IsSound}
use Rattle.lio_calculus.specs.Logs.{IsLocal}
use Rattle.lio_calculus.specs.Journals.{AreNumberedFrom, of_cell}
use Rattle.lio_task.specs.declared.config.Holder.{Holder}
use Rattle.lio_table.specs.declared.view.Beginning.{Beginning}
use Rattle.lio_table.specs.declared.view.Claimed.{Claimed}
use Rattle.lio_table.specs.declared.view.View.{View}
use Rattle.lio_table.specs.Views.{HasLog, HoldsNode, configuration_from, rights}

-- a table as plain data
abbrev pub TableState : Type 0
TableState = State (Option Holder) View

-- a node is at home: its slot has its holder
pub record IsAtHome (first : Beginning) (journal : List Entry) (s : TableState) (n : ℕ) : Type 0 where
  pub word : slice_index s.words (n + 1) ≡ 0
  pub holder : Holder
  pub slot : get_elem? s.homes n ≡ some (some (Some holder))
  pub has_log : HasLog first n (of_cell n journal) holder

-- a node is with the seat with a number: its slot is out
pub record IsWithSeat (s : TableState) (n seat : ℕ) : Type 0 where
  pub word : slice_index s.words (n + 1) ≡ 1
  pub slot : get_elem? s.homes n ≡ some none
  pub view : View
  pub is_view : get_elem? s.views seat ≡ some view
  pub holds : HoldsNode view n

-- where a node is: at home, or with a seat
abbrev pub IsAt : Beginning → List Entry → TableState → ℕ → Option ℕ → Type 0
IsAt first journal s n None = IsAtHome first journal s n
IsAt first journal s n (Some seat) = IsWithSeat s n seat

-- what a seat says of a node that it holds is so
pub record IsHeldBy (first : Beginning) (journal : List Entry) (owner : ℕ → Option ℕ) (seat : ℕ) (node : Claimed) : Type 0 where
  pub within : node.number < length first.holders
  pub owned : owner node.number ≡ Some seat
  pub log : node.log ≡ of_cell node.number journal

-- Each node is at home or with one seat.
pub record HaveOwners (first : Beginning) (journal : List Entry) (s : TableState) : Type 0 where
  pub owner : ℕ → Option ℕ
  pub words : length s.words ≡ length first.holders + 1
  pub slots : length s.homes ≡ length first.holders
  pub nodes : (n : ℕ) → n < length first.holders → IsAt first journal s n (owner n)
  pub seats : (seat : ℕ) (view : View) → get_elem? s.views seat ≡ some view → (node : Claimed) → Contains view.claimed node → IsHeldBy first journal owner seat node

-- A seat has drawn tickets below a number. It has one drawn or left and knows what the table began with, or it is spent and holds nothing.
pub record HasRights (first : Beginning) (count : ℕ) (view : View) : Type 0 where
  pub below : (entry : Entry) → Contains view.drawn entry → entry.ticket < count
  pub knows : 0 < rights view → view.first ≡ first
  pub spent : rights view ≡ 0 → view.claimed ≡ []

-- Each entry of the journal is that of a turn for which one seat has drawn the ticket, once, and the seats have 2^62 tickets among them, drawn or left.
pub record AreDrawn (first : Beginning) (journal : List Entry) (s : TableState) : Type 0 where
  pub next : slice_index s.words 0 ≡ length journal
  pub all : sum_by rights s.views ≡ 2 ^ 62
  pub drawn : (p : Entry → Bool) → sum_by (λ view. count_by p view.drawn) s.views ≡ count_by p journal
  pub seats : (seat : ℕ) (view : View) → get_elem? s.views seat ≡ some view → HasRights first (length journal) view

-- A journal of turns from a sound configuration: its tickets go from 0 on, its entries show the configuration's nodes alone, and each is local to the
-- logs of its actor and its target.
pub record AreTurns (c : Configuration) (journal : List Entry) : Type 0 where
  pub sound : IsSound c
  pub numbered : AreNumberedFrom 0 journal
  pub inside : (n : ℕ) → length c.cells ≤ n → of_cell n journal ≡ []
  pub local : (entry : Entry) → Contains journal entry → IsLocal c (λ n. of_cell n journal) entry

-- What holds of a table between any two steps.
pub record Keeps (first : Beginning) (s : TableState) : Type 0 where
  pub journal : List Entry
  pub owners : HaveOwners first journal s
  pub tickets : AreDrawn first journal s
  pub turns : AreTurns (configuration_from first) journal

-- a table keeps the rule with this journal
abbrev pub KeepsWith : Beginning → List Entry → TableState → Type 0
KeepsWith first journal s = (kept : Keeps first s) × (kept.journal ≡ journal)
