-- How a table begins and how it ends.
use Rattle.std.specs.Prelude.{◌≡◌, ◌+◌, List, [], map, length, replicate, slice_index_or, Some}
use Rattle.atomic_table.specs.Table.{opening}
use Rattle.lio_values.specs.declared.entry.Entry.{Entry}
use Rattle.lio_calculus.specs.Run.{run}
use Rattle.lio_calculus.specs.Sound.{IsSound}
use Rattle.lio_calculus.specs.Logs.{Logs}
use Rattle.lio_calculus.specs.Journals.{AreMergeable, AreNumberedFrom, ArePartsOf, HaveSameEntries, IsMerged, actors}
use Rattle.lio_task.specs.declared.config.Holder.{Holder}
use Rattle.lio_task.specs.Logs.{logs_of}
use Rattle.lio_table.specs.declared.view.Beginning.{Beginning}
use Rattle.lio_table.specs.declared.view.View.{View}
use Rattle.lio_table.specs.Views.{configuration_from, with_all_tickets}
use Rattle.lio_table.specs.Rule.{TableState}

-- a table at its beginning: all words are 0, all nodes are at home, and one seat has all tickets
abbrev pub fresh_table : Beginning → TableState
fresh_table first = opening (replicate (length first.holders + 1) 0) (map Some first.holders) (with_all_tickets first)

-- the logs of holders by number
abbrev pub logs_in : List Holder → Logs
logs_in holders n = slice_index_or (logs_of holders) n []

-- A table is closed by a seat, with these holders: their logs are the parts of a run from where the table began, they stand for its last configuration,
-- which is sound, and its entries are those of the turns for which the seat has drawn the tickets.
pub record HasRun (first : Beginning) (view : View) (holders : List Holder) : Type 0 where
  pub journal : List Entry
  pub parts : ArePartsOf journal (logs_in holders)
  pub mergeable : AreMergeable (logs_in holders)
  pub merged : IsMerged (logs_in holders) journal
  pub numbered : AreNumberedFrom 0 journal
  pub run : run 0 (configuration_from first) (actors journal) ≡ Some (record { entries = journal; last = configuration_from (record first { holders = holders }) })
  pub sound : IsSound (configuration_from (record first { holders = holders }))
  pub drawn : HaveSameEntries view.drawn journal
