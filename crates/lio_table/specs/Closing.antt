-- What a closed table says.
use Rattle.std.specs.Prelude.{◌≡◌, List}
use Rattle.lio_values.specs.declared.entry.Entry.{Entry}
use Rattle.lio_calculus.specs.Logs.{Logs, folded}
use Rattle.lio_calculus_runs.specs.WellFormed.{IsWellFormed}
use Rattle.lio_task.specs.Configuration.{configuration_of}
use Rattle.lio_task.specs.declared.config.Config.{Config}
use Rattle.lio_table.specs.declared.view.Beginning.{Beginning}
use Rattle.lio_table.specs.declared.view.View.{View}
use Rattle.lio_table.specs.Ends.{HasRun}
use Rattle.lio_table.specs.Logs.{HaveRunSoFar}
use Rattle.lio_table.specs.Rule.{TableState}
use Rattle.lio_table.specs.Views.{configuration_from}

-- A table that was closed by a seat has run from where it began to this configuration.
pub record HasRunTo (first : Beginning) (view : View) (config : Config) : Type 0 where
  pub has_run : HasRun first view config.holders.items
  pub longest : config.longest ≡ first.longest

-- A table that began with a well-formed configuration is closed with a well-formed one. The rule itself speaks of the parts that noninterference stands on (`IsSound`) alone.
abbrev pub ClosedTableIsWellFormed : Type 0
ClosedTableIsWellFormed = (first : Beginning) (view : View) (config : Config) → IsWellFormed (configuration_from first) → HasRunTo first view config → IsWellFormed (configuration_of first.script config)

-- so is, at each moment, what the logs in slots and views have made of the first configuration
abbrev pub TableIsWellFormed : Type 0
TableIsWellFormed = (first : Beginning) (s : TableState) (journal : List Entry) (logs : Logs) → IsWellFormed (configuration_from first) → HaveRunSoFar first s journal logs → IsWellFormed (folded (configuration_from first) logs)
