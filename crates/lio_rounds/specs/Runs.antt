-- Complete runs, and runs by rounds.
use Rattle.std.specs.Prelude.{◌≡◌, ℕ, List, length, IsTrue, Some, slice_get}
use Rattle.lio_labels.specs.declared.label.Label.{Label}
use Rattle.lio_labels.specs.Flow.{flows}
use Rattle.lio_values.specs.declared.entry.Entry.{Entry}
use Rattle.lio_events.specs.ChannelBytes.{channel_bytes}
use Rattle.lio_policy.specs.Policy.{PolicyParts}
use Rattle.lio_policy.specs.declared.policy.FileEntry.{FileEntry}
use Rattle.lio_syntax.specs.Statements.{Procedure}
use Rattle.lio_calculus.specs.Step.{Configuration}
use Rattle.lio_calculus.specs.Run as calculus
use Rattle.lio_events.specs.Views.{view}
use Rattle.lio_calculus.specs.Run.{run}
use Rattle.lio_calculus.specs.Journals.{AreMergeable, IsLogged, IsMerged, actors}
use Rattle.lio_calculus.specs.Logs.{Logs, folded}
use Rattle.lio_calculus_runs.specs.Rounds.{IsComplete, rounds}
use Rattle.lio_calculus_runs.specs.LowLaws.{RoundsSeenAs}
use Rattle.lio_calculus_runs.specs.WellFormed.{IsWellFormed}
use Rattle.lio_task.specs.Configuration.{configuration_of}
use Rattle.lio_task.specs.Logs.{log_in}
use Rattle.lio_rounds.specs.declared.by_rounds.Ran.{Ran}

-- the run that the code's journal and configuration stand for, with a script
abbrev pub ran_of : List Procedure → Ran → calculus.Ran
ran_of script ran = record { entries = ran.journal; last = configuration_of script ran.config }

-- A run's configuration has the logs of its journal: they can be merged, and the journal is their merge.
pub record HasItsLogs (ran : Ran) : Type 0 where
  pub mergeable : AreMergeable (log_in ran.config)
  pub merged : IsMerged (log_in ran.config) ran.journal

-- A run is the merge of logs, one for each node: each ticket below the number of its turns stands in one entry, which stands in its actor's log, in its target's, if it has one, and in no other; tickets
-- rise in each log; each entry is local to the logs of its actor and its target. The journal is the merge of the logs, and each cell of the last configuration is what its log makes of the first one.
pub record IsMergeOfLogs (c : Configuration) (ran : calculus.Ran) : Type 0 where
  pub logs : Logs
  pub logged : IsLogged c logs (length ran.entries)
  pub merged : IsMerged logs ran.entries
  pub last : ran.last ≡ folded c logs

-- A complete run: the turns of those who took them, with tickets from 0, after which no task can take one; the first and the last configuration are well-formed.
pub record IsCompleteRun (c : Configuration) (ran : calculus.Ran) : Type 0 where
  pub is_run : run 0 c (actors ran.entries) ≡ Some ran
  pub complete : IsComplete ran.last
  pub first : IsWellFormed c
  pub last : IsWellFormed ran.last

-- A run by rounds: the rounds say who took the turns, in their order; and what an observer sees of it comes in the order of the erased calculus's own rounds (the noninterference of the concurrent
-- calculus of LIO, ICFP 2012, under a round-robin scheduler).
pub record IsByRounds (c : Configuration) (ran : calculus.Ran) : Type 0 where
  pub order : actors ran.entries ≡ rounds c
  pub seen : (observer : Label) → RoundsSeenAs observer c ran

-- the run of the rounds of a configuration, to its end
pub record RunsRounds (c : Configuration) (ran : calculus.Ran) : Type 0 where
  pub is_run : run 0 c (rounds c) ≡ Some ran
  pub complete : IsComplete ran.last
  pub first : IsWellFormed c
  pub last : IsWellFormed ran.last

-- An observer sees all that is sent to each channel of the policy whose label flows to the observer's: the bytes that a channel receives by a journal are those that it receives by the view.
abbrev pub SeesChannels : Label → PolicyParts → List Entry → Type 0
SeesChannels observer policy journal =
    (number : ℕ) (channel : FileEntry) → slice_get policy.channels number ≡ Some channel → IsTrue (flows channel.label observer) → channel_bytes (view observer 0 journal) number ≡ channel_bytes journal number
