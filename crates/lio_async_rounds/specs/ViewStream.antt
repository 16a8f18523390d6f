-- What an observer sees of the rounds of a machine, as a stream: what is still to come of it, and what each poll gives.
use Rattle.std.specs.Prelude.{◌≡◌, ◌⊎◌, ◌+◌, List, [], ◌∷◌, Option, None, Some, Result, Ok, Err, drop, true}
use Rattle.std.specs.Option.{option_map}
use Rattle.futures.specs.declared.task.Poll.{Poll}
use Rattle.futures.specs.declared.task.Poll.TheVariants.{Ready, Pending}
use Rattle.futures.specs.Runs.{Ends}
use Rattle.lio_clauses.specs.declared.faults.NoMemory.{NoMemory}
use Rattle.lio_values.specs.declared.entry.Entry.{Entry}
use Rattle.lio_events.specs.Views.{is_visible, view}
use Rattle.lio_calculus_runs.specs.RoundLaws.{IsOrderOf}
use Rattle.lio_calculus_runs.specs.Rounds.{rounds_from}
use Rattle.lio_rounds.specs.MachineParts.{machine_of}
use Rattle.lio_rounds.specs.MachineState.{HasRun, MachineState}
use Rattle.lio_async_rounds.specs.RoundsFuture.{MovesNone, MovesSome}
use Rattle.lio_async_rounds.specs.declared.view_stream.ViewStream.{ViewStream}

-- the machine that a stream runs; none after the end
abbrev pub machine_in : ViewStream → Option MachineState
machine_in stream = option_map machine_of stream.machine

-- the entries of a machine's journal that wait to be given: those that the observer sees of the ones that weren't looked at, each erased, with the next tickets
abbrev pub waiting : ViewStream → MachineState → List Entry
waiting stream machine = view stream.observer stream.given (drop stream.next machine.entries)

-- a stream runs this machine, whose order lists its tasks
pub record RunsMachine (stream : ViewStream) (machine : MachineState) : Type 0 where
  pub there : machine_in stream ≡ Some machine
  pub lists : IsOrderOf machine.configuration machine.order

-- the first of the entries that wait in a machine's journal was given
pub record HasGiven (old new : ViewStream) (machine : MachineState) (entry : Entry) : Type 0 where
  pub first : waiting old machine ≡ entry ∷ waiting new machine
  pub runs : RunsMachine new machine
  pub observer : new.observer ≡ old.observer
  pub given : new.given ≡ old.given + 1

-- an entry waits in a machine's journal, and its place is the one up to which the stream has looked at it
pub record IsFound (stream : ViewStream) (machine : MachineState) : Type 0 where
  pub entry : Entry
  pub rest : List Entry
  pub at : drop stream.next machine.entries ≡ entry ∷ rest
  pub seen : is_visible stream.observer entry ≡ true

-- what comes of an entry that was found: it is given, or memory was wanting, and the stream has ended
abbrev pub Gave : ViewStream → MachineState → Poll (Option (Result Entry NoMemory)) → ViewStream → Type 0
Gave old machine (Ready (Some (Ok entry))) new = HasGiven old new machine entry
Gave old machine (Ready (Some (Err fault))) new = IsOrderOf machine.configuration machine.order × (new.machine ≡ None)
Gave old machine other new = ⊥

-- a poll makes a round where no entry waits
pub record Goes (stream : ViewStream) (before after : MachineState) (Moves : MachineState → MachineState → Type 0) : Type 0 where
  pub there : machine_in stream ≡ Some before
  pub none : waiting stream before ≡ []
  pub moves : Moves before after

-- no entry of a machine's journal waits, and the stream goes on with it
pub record IsUnseen (old new : ViewStream) (machine : MachineState) : Type 0 where
  pub none : waiting old machine ≡ []
  pub none_after : waiting new machine ≡ []
  pub there : machine_in new ≡ Some machine
  pub observer : new.observer ≡ old.observer
  pub given : new.given ≡ old.given

-- a stream has this machine, or it had another one in whose journal no entry waited, and a round has led to this one
abbrev pub HasCome : ViewStream → MachineState → Type 0
HasCome stream machine = (machine_in stream ≡ Some machine) ⊎ ((before : MachineState) × Goes stream before machine MovesSome)

-- What a poll gives. Pending: no entry waited, the poll's round moved at least one task, and the observer sees nothing of it. An entry: the first of those that wait, or, where none did, of those that the poll's
-- round made. The end: no entry waited, and the poll's round moved nothing; or the stream had ended. Want of memory: the stream has ended.
abbrev pub GivesNext : ViewStream → Poll (Option (Result Entry NoMemory)) → ViewStream → Type 0
GivesNext old Pending new = (before : MachineState) × (after : MachineState) × Goes old before after MovesSome × IsUnseen old new after
GivesNext old (Ready (Some (Ok entry))) new = (machine : MachineState) × HasCome old machine × HasGiven old new machine entry
GivesNext old (Ready (Some (Err fault))) new = ((machine : MachineState) × RunsMachine old machine) × (new.machine ≡ None)
GivesNext old (Ready None) new = ((old.machine ≡ None) ⊎ ((machine : MachineState) × Goes old machine machine MovesNone)) × (new.machine ≡ None)

-- these entries in their order, and then the end; or the first ones, want of memory, and then the end
abbrev pub Come : List Entry → List (Result Entry NoMemory) → Option (Result Entry NoMemory) → Type 0
Come left [] None = left ≡ []
Come left [] (Some (Err fault)) = Unit {0}
Come [] [] (Some (Ok entry)) = ⊥
Come (first ∷ left) [] (Some (Ok entry)) = entry ≡ first
Come left (Err fault ∷ items) last = Ends items last
Come [] (Ok entry ∷ items) last = ⊥
Come (first ∷ left) (Ok entry ∷ items) last = (entry ≡ first) × Come left items last

-- what the observer sees of the journal to which a machine's rounds lead, from the place on up to which the stream has looked at it
pub record IsLeft (stream : ViewStream) (machine : MachineState) (left : List Entry) : Type 0 where
  pub last : MachineState
  pub has_run : HasRun machine last (rounds_from machine.order machine.configuration)
  pub left_is : left ≡ view stream.observer stream.given (drop stream.next last.entries)

-- what may still come of a stream
abbrev pub YieldsOf : ViewStream → Option MachineState → List (Result Entry NoMemory) → Option (Result Entry NoMemory) → Type 0
YieldsOf stream None items last = Ends items last
YieldsOf stream (Some machine) items last = (left : List Entry) × IsLeft stream machine left × Come left items last

abbrev pub Yields : ViewStream → List (Result Entry NoMemory) → Option (Result Entry NoMemory) → Type 0
Yields stream items last = YieldsOf stream (machine_in stream) items last

-- an item that isn't want of memory
abbrev pub IsEntry : Result Entry NoMemory → Type 0
IsEntry (Ok entry) = Unit {0}
IsEntry (Err fault) = ⊥
