-- What the code's erased configurations stand for.
use Rattle.std.specs.Prelude.{◌≡◌, ℕ, Bool, true, not, ◌||◌, IsTrue, List, map, Option, Some, None, is_some, option_and_then, slice_get, if◌then◌else◌}
use Rattle.std.specs.List.{All}
use Rattle.lio_labels.specs.declared.label.Label.{Label}
use Rattle.lio_labels.specs.Flow.{flows}
use Rattle.lio_syntax.specs.Statements.{Procedure}
use Rattle.lio_cells.specs.declared.state.State.{State}
use Rattle.lio_cells.specs.State.{is_absent, is_job}
use Rattle.lio_calculus.specs.Task.{TaskState}
use Rattle.lio_calculus.specs.Step.{Cell, Configuration, blank, cell_at}
use Rattle.lio_calculus.specs.Hiding.{hide_task}
use Rattle.lio_calculus.specs.Erased.{erase, sees}
use Rattle.lio_calculus.specs.Sound.{IsSound}
use Rattle.lio_calculus.specs.Purity.{ContentsArePure}
use Rattle.lio_task_turns.specs.StateOf.{program_of}
use Rattle.lio_task.specs.declared.task.Task.{Task}
use Rattle.lio_task.specs.declared.config.Holder.{Holder}
use Rattle.lio_task.specs.Configuration.{cell_of}

-- the cell that a holder stands for; where there is none, the cell is left out
abbrev pub low_cell_of : List Procedure → Option Holder → Cell
low_cell_of script None = blank
low_cell_of script (Some holder) = cell_of script holder

-- whether a holder is there for something: its node or its task is there
abbrev pub is_kept : Option Holder → Bool
is_kept None = true
is_kept (Some holder) = is_some holder.task || not (is_absent holder.node.state)

-- a cell that is left out has no holder
abbrev pub LeavesOutBlanks : List (Option Holder) → Type 0
LeavesOutBlanks holders = All (λ holder. IsTrue (is_kept holder)) holders

-- the configuration that the holders stand for, with a script
abbrev pub low_configuration_of : List Procedure → ℕ → List (Option Holder) → Configuration
low_configuration_of script longest holders = record { program = program_of script longest; cells = map (low_cell_of script) holders }

-- the holder with a number, where its cell isn't left out, and its task
abbrev pub holder_in : List (Option Holder) → ℕ → Option Holder
holder_in holders n = option_and_then (λ cell. cell) (slice_get holders n)

abbrev pub low_task_in : List (Option Holder) → ℕ → Option Task
low_task_in holders k = option_and_then (λ holder. holder.task) (holder_in holders k)

-- a cell, where an observer sees it
abbrev pub seen_cell : Label → Cell → Cell
seen_cell observer cell = if sees observer cell then cell else blank

-- a task as an observer sees it; one whose label doesn't flow to the observer's is left out
abbrev pub seen_task : Label → TaskState → Option TaskState
seen_task observer task = if flows task.label observer then Some (hide_task observer task) else None

-- a job whose task has gone on; where the task is left out, so is the cell
abbrev pub job_with : State → Option TaskState → Cell
job_with state None = blank
job_with state (Some task) = record { state = state; task = Some task }

-- each cell that has a task is a job
abbrev pub TasksAreJobs : Configuration → Type 0
TasksAreJobs c = (k : ℕ) → IsTrue (is_some (cell_at c k).task) → IsTrue (is_job (cell_at c k).state)

-- A configuration is as an observer sees it, and its contents are pure, so that what a task is given of them is as the observer sees it, too.
pub record IsErased (observer : Label) (c : Configuration) : Type 0 where
  pub jobs : TasksAreJobs c
  pub erased : erase observer c ≡ c
  pub pure : ContentsArePure c

-- A configuration is what an observer sees of a sound one.
pub record IsSeenOfSound (observer : Label) (c : Configuration) : Type 0 where
  pub whole : Configuration
  pub sound : IsSound whole
  pub seen : c ≡ erase observer whole
