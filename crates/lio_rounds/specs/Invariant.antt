-- What a machine keeps beside its value.
use Rattle.std.specs.Prelude.{◌≡◌, ℕ, List, Some}
use Rattle.lio_values.specs.declared.entry.Entry.{Entry}
use Rattle.lio_calculus.specs.Run.{run}
use Rattle.lio_calculus.specs.Step.{Configuration}
use Rattle.lio_calculus.specs.Journals.{AreNumberedFrom, ArePartsOf}
use Rattle.lio_calculus_runs.specs.RoundLaws.{IsOrderOf}
use Rattle.lio_calculus_runs.specs.WellFormed.{IsWellFormed}
use Rattle.lio_task.specs.declared.config.Config.{Config}
use Rattle.lio_task.specs.Logs.{log_in}

-- the entries are a run that leads to the configuration, from a well-formed one in which no turn was taken
pub record IsRunTo (c : Configuration) (entries : List Entry) : Type 0 where
  pub first : Configuration
  pub well_formed : IsWellFormed first
  pub tasks : List ℕ
  pub is_run : run 0 first tasks ≡ Some (record { entries = entries; last = c })

-- the entries are a run to the configuration, which is well-formed, the order lists its tasks, each once, and the entries are numbered by their tickets
pub record IsMachine (c : Configuration) (order : List ℕ) (entries : List Entry) : Type 0 where
  pub ran : IsRunTo c entries
  pub well_formed : IsWellFormed c
  pub lists : IsOrderOf c order
  pub numbered : AreNumberedFrom 0 entries

-- the logs of a configuration's nodes are the parts of the entries
pub record HasLogsOf (entries : List Entry) (config : Config) : Type 0 where
  pub parts : ArePartsOf entries (log_in config)
