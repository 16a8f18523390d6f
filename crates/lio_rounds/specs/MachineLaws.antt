-- What a machine has run, and what each observer sees of it.
use Rattle.std.specs.Prelude.{◌≡◌, ℕ, List, [], ◌∷◌, ◌++◌, Some}
use Rattle.lio_labels.specs.declared.label.Label.{Label}
use Rattle.lio_values.specs.declared.entry.Entry.{Entry}
use Rattle.lio_calculus.specs.Enabled.{EnabledBelow}
use Rattle.lio_calculus.specs.Laws.{RunSeenAs}
use Rattle.lio_calculus.specs.Run.{run}
use Rattle.lio_calculus.specs.Sound.{IsSound}
use Rattle.lio_calculus.specs.Step.{Configuration}
use Rattle.lio_calculus_runs.specs.WellFormed.{IsWellFormed}
use Rattle.lio_rounds.specs.MachineState.{MachineState, HasTaken, HasRun}

-- a machine as it stands has run nothing
abbrev pub NothingIsARun : Type 0
NothingIsARun = (machine : MachineState) → HasRun machine machine []

-- one turn is a run
abbrev pub TurnIsARun : Type 0
TurnIsARun = (old new : MachineState) (k : ℕ) (entry : Entry) → HasTaken old new k entry → HasRun old new (k ∷ [])

-- a run goes on with another one
abbrev pub RunsGoOn : Type 0
RunsGoOn = (old between new : MachineState) (ks js : List ℕ) → HasRun old between ks → HasRun between new js → HasRun old new (ks ++ js)

-- Whatever turns a machine has taken since it had taken none, every observer sees of its journal and its configuration what the erased calculus gives from what the observer saw of it then
-- (the noninterference of the concurrent calculus of LIO, ICFP 2012).
abbrev pub IsSeenAsErased : MachineState → Type 0
IsSeenAsErased machine = (fresh : MachineState) (ks : List ℕ) (observer : Label)
    → fresh.entries ≡ [] → IsSound fresh.configuration → HasRun fresh machine ks
    → RunSeenAs observer fresh.configuration (record { entries = machine.entries; last = machine.configuration })

abbrev pub RunsAreSeenAsErased : Type 0
RunsAreSeenAsErased = (machine : MachineState) → IsSeenAsErased machine

-- A machine's journal is a run to its configuration, from a well-formed configuration in which no turn was taken; and every observer sees of both what the erased calculus gives from what it
-- sees of that first configuration. Which of the tasks that it sees can go on is decided by what it sees.
pub record HasRunSeen (machine : MachineState) : Type 0 where
  pub first : Configuration
  pub well_formed : IsWellFormed first
  pub tasks : List ℕ
  pub is_run : run 0 first tasks ≡ Some (record { entries = machine.entries; last = machine.configuration })
  pub seen : (observer : Label) → RunSeenAs observer first (record { entries = machine.entries; last = machine.configuration })
  pub enabled : (observer : Label) (k : ℕ) → EnabledBelow observer machine.configuration k
