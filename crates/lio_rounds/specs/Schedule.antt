-- Runs by a schedule: the tasks that are to take a turn, in order. One that can't take its turn is passed over.
use Rattle.std.specs.Prelude.{◌≡◌, ℕ, ◌+◌, Bool, true, false, List, [], ◌∷◌, Some, if◌then◌else◌}
use Rattle.std.specs.Option.{option_map_or}
use Rattle.lio_values.specs.declared.entry.Entry.{Entry}
use Rattle.lio_syntax.specs.Statements.{Procedure}
use Rattle.lio_calculus.specs.Run.{run}
use Rattle.lio_calculus.specs.Step.{Configuration, can, step}
use Rattle.lio_task.specs.Configuration.{configuration_of}
use Rattle.lio_rounds.specs.MachineState.{HasTaken, MachineState}
use Rattle.lio_start.specs.Job.{JobParts, first_of}
use Rattle.lio_rounds.specs.Runs.{ran_of}
use Rattle.lio_rounds.specs.declared.by_schedule.Scheduled.{Scheduled}

-- what a run by a schedule gives: its journal, its last configuration, and of each task of the schedule whether it took its turn
pub record ScheduledRun : Type 0 where
  pub entries : List Entry
  pub last : Configuration
  pub taken : List Bool

-- the task before this run is passed over
abbrev pub passed_over : ScheduledRun → ScheduledRun
passed_over rest = record rest { taken = false ∷ rest.taken }

-- the task before this run has taken its turn
abbrev pub behind : Entry → ScheduledRun → ScheduledRun
behind entry rest = record rest { entries = entry ∷ rest.entries; taken = true ∷ rest.taken }

-- the run by a schedule, with tickets from a first one
unfoldable pub by_schedule : ℕ → Configuration → List ℕ → ScheduledRun
by_schedule ticket c [] = record { entries = []; last = c; taken = [] }
by_schedule ticket c (k ∷ ks) =
    option_map_or (λ turn. behind turn.entry (by_schedule (ticket + 1) turn.next ks)) (step ticket c k) (passed_over (by_schedule ticket c ks))

-- the run by a schedule that the code's stands for, with a script
abbrev pub scheduled_of : List Procedure → Scheduled → ScheduledRun
scheduled_of script scheduled = record { entries = scheduled.ran.journal; last = configuration_of script scheduled.ran.config; taken = scheduled.taken.items }

-- a machine has taken the turn of task k, or has stayed as it was where the task couldn't take one
abbrev pub HasGoneOn : MachineState → MachineState → ℕ → Bool → Type 0
HasGoneOn old new k true = (entry : Entry) × HasTaken old new k entry
HasGoneOn old new k false = (new ≡ old) × (can old.configuration k ≡ false)

-- the tasks of a schedule that took their turns
unfoldable pub takers : List ℕ → List Bool → List ℕ
takers [] taken = []
takers (k ∷ ks) [] = []
takers (k ∷ ks) (moved ∷ taken) = if moved then k ∷ takers ks taken else takers ks taken

-- what the code's run by a schedule gave is the run of the job by the schedule
abbrev pub IsBySchedule : JobParts → List ℕ → Scheduled → Type 0
IsBySchedule job schedule scheduled = scheduled_of job.script scheduled ≡ by_schedule 0 (first_of job) schedule

-- the tasks that took their turns have run, from the first configuration of the job
abbrev pub TakersHaveRun : JobParts → List ℕ → Scheduled → Type 0
TakersHaveRun job schedule scheduled = run 0 (first_of job) (takers schedule scheduled.taken.items) ≡ Some (ran_of job.script scheduled.ran)
