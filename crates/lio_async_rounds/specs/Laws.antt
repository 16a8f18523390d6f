-- What the future gives and the stream yields of a machine that was just made.
use Rattle.std.specs.Prelude.{◌≡◌, List, [], All, None, Some, Result, Ok, map}
use Rattle.lio_clauses.specs.declared.faults.NoMemory.{NoMemory}
use Rattle.lio_values.specs.declared.entry.Entry.{Entry}
use Rattle.lio_events.specs.Views.{view}
use Rattle.lio_calculus.specs.Run.{Ran, run}
use Rattle.lio_calculus.specs.Sound.{IsSound}
use Rattle.lio_calculus_runs.specs.LowLaws.{RoundsSeenAs}
use Rattle.lio_calculus_runs.specs.Rounds.{IsComplete, rounds, tasks}
use Rattle.lio_rounds.specs.MachineParts.{MachineParts, machine_of}
use Rattle.lio_rounds.specs.MachineState.{MachineState}
use Rattle.lio_async_rounds.specs.RoundsFuture.{Gives}
use Rattle.lio_async_rounds.specs.ViewStream.{IsEntry, Yields, machine_in}
use Rattle.lio_async_rounds.specs.declared.view_stream.ViewStream.{ViewStream}

-- a machine that has taken no turn, with its tasks in the order of their numbers
pub record IsFresh (machine : MachineState) : Type 0 where
  pub entries : machine.entries ≡ []
  pub order : machine.order ≡ tasks machine.configuration

-- the run of a machine's journal to its configuration
abbrev pub ran_by : MachineState → Ran
ran_by machine = record { entries = machine.entries; last = machine.configuration }

-- A future gives of a fresh machine the run of the rounds of its configuration, after which no task can take a turn.
abbrev pub FuturesGiveTheRun : Type 0
FuturesGiveTheRun = (old new : MachineParts) → IsFresh (machine_of old) → Gives (Some old) (Ok new)
    → (run 0 (machine_of old).configuration (rounds (machine_of old).configuration) ≡ Some (ran_by (machine_of new))) × IsComplete (machine_of new).configuration

-- a stream over a fresh machine, of which nothing was given
pub record IsFreshStream (stream : ViewStream) (machine : MachineState) : Type 0 where
  pub there : machine_in stream ≡ Some machine
  pub fresh : IsFresh machine
  pub next : stream.next ≡ 0
  pub given : stream.given ≡ 0

-- The items to the end, of which none is want of memory, are what the observer sees of a run's journal, and come in the order of the erased calculus's own rounds (the noninterference of the concurrent
-- calculus of LIO, ICFP 2012, under a round-robin scheduler).
pub record AreViewOf (stream : ViewStream) (machine : MachineState) (items : List (Result Entry NoMemory)) : Type 0 where
  pub ran : Ran
  pub is_run : run 0 machine.configuration (rounds machine.configuration) ≡ Some ran
  pub are : items ≡ map Ok (view stream.observer 0 ran.entries)
  pub seen : IsSound machine.configuration → RoundsSeenAs stream.observer machine.configuration ran

-- A stream over a fresh machine yields the view of the run of its rounds.
abbrev pub StreamsYieldTheView : Type 0
StreamsYieldTheView = (stream : ViewStream) (machine : MachineState) (items : List (Result Entry NoMemory)) → IsFreshStream stream machine → Yields stream items None → All IsEntry items → AreViewOf stream machine items
