-- The logs of a table's nodes, where they stand: in the slots of the nodes that are at home, and in the views of the seats that hold the others.
use Rattle.std.specs.Prelude.{◌≡◌, ◌⊎◌, ℕ, ◌<◌, ◌≤◌, List, [], length, slice_index, Contains, Some}
use mathlib.Core.Option.{some}
use lib.ListN.{get_elem?}
use Rattle.lio_values.specs.declared.entry.Entry.{Entry}
use Rattle.lio_calculus.specs.Logs.{Logs}
use Rattle.lio_calculus.specs.Journals.{IsLogged, IsMerged}
use Rattle.lio_calculus.specs.LogLaws.{IsRunOfLogs}
use Rattle.lio_task.specs.declared.config.Holder.{Holder}
use Rattle.lio_table.specs.declared.view.Beginning.{Beginning}
use Rattle.lio_table.specs.declared.view.Claimed.{Claimed}
use Rattle.lio_table.specs.declared.view.View.{View}
use Rattle.lio_table.specs.Views.{configuration_from}
use Rattle.lio_table.specs.Rule.{TableState}

-- The slot of node n has a holder with this log.
pub record SlotHasLog (s : TableState) (n : ℕ) (log : List Entry) : Type 0 where
  pub holder : Holder
  pub slot : get_elem? s.homes n ≡ some (some (Some holder))
  pub is : log ≡ holder.node.log

-- A seat holds node n, with this log in its view.
pub record SeatHasLog (s : TableState) (n : ℕ) (log : List Entry) : Type 0 where
  pub seat : ℕ
  pub view : View
  pub is_view : get_elem? s.views seat ≡ some view
  pub node : Claimed
  pub holds : Contains view.claimed node
  pub number : node.number ≡ n
  pub is : log ≡ node.log

-- Logs are those of a table's nodes, each as its slot has it or a seat that holds the node; there are no others.
pub record AreLogsOf (s : TableState) (logs : Logs) : Type 0 where
  pub each : (n : ℕ) → n < length s.homes → SlotHasLog s n (logs n) ⊎ SeatHasLog s n (logs n)
  pub no_other : (n : ℕ) → length s.homes ≤ n → logs n ≡ []

-- Logs are logs of turns from where a table began: each ticket below word 0 stands in one entry, which stands in its actor's log, in its target's if it has
-- one, and in no other; tickets rise in each log; and each entry is local. So their merge, this journal, is a run.
pub record HaveRunSoFar (first : Beginning) (s : TableState) (journal : List Entry) (logs : Logs) : Type 0 where
  pub logged : IsLogged (configuration_from first) logs (slice_index s.words 0)
  pub merged : IsMerged logs journal
  pub run : IsRunOfLogs (configuration_from first) logs journal
