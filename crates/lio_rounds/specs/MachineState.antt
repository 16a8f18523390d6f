-- A machine, as contracts see it, and what its turns do to it.
use Rattle.std.specs.Prelude.{◌≡◌, ℕ, List, [], ◌∷◌, ◌++◌, flat_map, length, take, Some}
use Rattle.lio_values.specs.declared.entry.Entry.{Entry}
use Rattle.lio_syntax.specs.Statements.{Procedure}
use Rattle.lio_calculus.specs.Step.{Configuration, step}
use Rattle.lio_calculus.specs.Run.{run}
use Rattle.lio_calculus_runs.specs.Round.{born_in, round}
use Rattle.lio_calculus_runs.specs.Rounds.{stepped}

-- a machine: its script, its configuration, the entries of the turns that it has taken, and the order of its tasks
pub record MachineState : Type 0 where
  pub script : List Procedure
  pub configuration : Configuration
  pub entries : List Entry
  pub order : List ℕ

-- a machine has taken the turn of task k that the entry shows; its ticket is the number of entries before it, and who was born comes last in the order
pub record HasTaken (old new : MachineState) (k : ℕ) (entry : Entry) : Type 0 where
  pub is_step : step (length old.entries) old.configuration k ≡ Some (record { entry = entry; next = new.configuration })
  pub entries : new.entries ≡ old.entries ++ entry ∷ []
  pub order : new.order ≡ old.order ++ born_in entry
  pub script : new.script ≡ old.script

-- a machine has taken the turns of these tasks in order; who was born comes last in the order, as it was made
pub record HasRun (old new : MachineState) (ks : List ℕ) : Type 0 where
  pub added : List Entry
  pub is_run : run (length old.entries) old.configuration ks ≡ Some (record { entries = added; last = new.configuration })
  pub entries : new.entries ≡ old.entries ++ added
  pub order : new.order ≡ old.order ++ flat_map born_in added
  pub script : new.script ≡ old.script

-- a machine has taken the turns of the first of these tasks in order, of none or all of them included
abbrev pub HasBegun : MachineState → MachineState → List ℕ → Type 0
HasBegun old new ks = (n : ℕ) × HasRun old new (take n ks)

-- a machine has gone through a round over these tasks
pub record HasWalked (old new : MachineState) (walked : List ℕ) : Type 0 where
  pub has_run : HasRun old new (round stepped walked old.configuration).moved
  pub after : (round stepped walked old.configuration).after ≡ new.configuration
  pub order : new.order ≡ old.order ++ (round stepped walked old.configuration).born
