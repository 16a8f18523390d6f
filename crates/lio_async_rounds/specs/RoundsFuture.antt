-- The rounds of a machine as a future: what it gives, and what each poll of it does.
use Rattle.std.specs.Prelude.{◌≡◌, ◌≢◌, [], Option, None, Some, Result, Ok, Err}
use Rattle.futures.specs.declared.task.Poll.{Poll}
use Rattle.futures.specs.declared.task.Poll.TheVariants.{Ready, Pending}
use Rattle.lio_clauses.specs.declared.faults.NoMemory.{NoMemory}
use Rattle.lio_calculus_runs.specs.Round.{round}
use Rattle.lio_calculus_runs.specs.Rounds.{IsComplete, rounds_from, stepped}
use Rattle.lio_rounds.specs.MachineParts.{MachineParts, machine_of}
use Rattle.lio_rounds.specs.MachineState.{HasRun, HasWalked, MachineState}

-- a machine has gone by whole rounds to one that moves nothing
pub record IsRunOut (old new : MachineState) : Type 0 where
  pub has_run : HasRun old new (rounds_from old.order old.configuration)
  pub complete : IsComplete new.configuration

-- what a future may give: of the machine that it has, the one to which its rounds lead, or want of memory; nothing where it has none
abbrev pub Gives : Option MachineParts → Result MachineParts NoMemory → Type 0
Gives None output = ⊥
Gives (Some old) (Ok new) = IsRunOut (machine_of old) (machine_of new)
Gives (Some old) (Err fault) = Unit {0}

-- a round over all tasks of a machine, which moved at least one
pub record MovesSome (old new : MachineState) : Type 0 where
  pub walked : HasWalked old new old.order
  pub some : (round stepped old.order old.configuration).moved ≢ []

-- a round over all tasks of a machine, which moved none, so that no task can take a turn, and after which the machine is as before
pub record MovesNone (old new : MachineState) : Type 0 where
  pub none : (round stepped old.order old.configuration).moved ≡ []
  pub stays : new ≡ old
  pub complete : IsComplete new.configuration

-- What a poll does to the machine that a future has. Pending: its round moved at least one task, and the machine stays in the future; or there was none. Ready: its round moved nothing, and it gives
-- the machine; or memory was wanting; the future has no machine any more.
abbrev pub Polls : Option MachineParts → Poll (Result MachineParts NoMemory) → Option MachineParts → Type 0
Polls None Pending after = after ≡ None
Polls None (Ready output) after = ⊥
Polls (Some old) Pending None = ⊥
Polls (Some old) Pending (Some new) = MovesSome (machine_of old) (machine_of new)
Polls (Some old) (Ready (Ok new)) after = MovesNone (machine_of old) (machine_of new) × (after ≡ None)
Polls (Some old) (Ready (Err fault)) after = after ≡ None
