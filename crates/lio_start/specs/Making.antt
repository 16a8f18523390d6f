-- What the functions ask and give that make the first configuration.
use Rattle.std.specs.Prelude.{◌≡◌, ℕ, ◌+◌, ◌<◌, ◌≤◌, ◌^◌, IsTrue, All, List, ◌++◌, map}
use Rattle.lio_labels.specs.Flow.{flows}
use Rattle.lio_values.specs.Measures.{value_depth}
use Rattle.lio_values.specs.declared.value.Value.{Value}
use Rattle.lio_values.specs.declared.act.Birth.{Birth}
use Rattle.lio_syntax.specs.Statements.{Procedure}
use Rattle.lio_calculus.specs.Step.{Cell, child_of}
use Rattle.lio_task_turns.specs.StateOf.{program_of}
use Rattle.lio_task.specs.declared.config.Holder.{Holder}
use Rattle.lio_task.specs.Births.{CanBeBorn}
use Rattle.lio_task.specs.Configuration.{cell_of}
use Rattle.lio_policy.specs.declared.policy.TaskEntry.{TaskEntry}
use Rattle.lio_start.specs.Fits.{Fits}
use Rattle.lio_start.specs.Start.{argument_of, cells_in_all, task_of}

-- no argument of a task is deeper than lists may be
abbrev pub AreShallow : List Value → TaskEntry → Type 0
AreShallow inputs entry = All (λ argument. value_depth (argument_of inputs argument) ≤ 8) entry.args

-- a task can begin, with a range of numbers from the given one on: it fits, its numbers have 31 bits, its label flows to its clearance, and its arguments aren't too deep
pub record CanBegin (script : List Procedure) (inputs : List Value) (first : ℕ) (entry : TaskEntry) : Type 0 where
  pub fits : Fits script entry
  pub range : first + entry.cells < 2 ^ 31
  pub cleared : IsTrue (flows entry.label entry.clearance)
  pub shallow : AreShallow inputs entry

-- so can all of these, the range of the first from the given number on, and each other one's behind the range before it
pub record CanBeginAll (script : List Procedure) (inputs : List Value) (first : ℕ) (tasks : List TaskEntry) : Type 0 where
  pub fits : All (Fits script) tasks
  pub range : first + cells_in_all tasks < 2 ^ 31
  pub cleared : All (λ entry. IsTrue (flows entry.label entry.clearance)) tasks
  pub shallow : All (AreShallow inputs) tasks

-- a birth can be borne, and its child at the label of a task is that task as it begins
pub record Bears (script : List Procedure) (inputs : List Value) (first : ℕ) (entry : TaskEntry) (birth : Birth) : Type 0 where
  pub can : CanBeBorn script entry.label birth
  pub child : (longest : ℕ) → child_of (program_of script longest) entry.label birth ≡ task_of script inputs first entry

-- cells were put behind those of the holders
abbrev pub Adds : List Procedure → List Holder → List Holder → List Cell → Type 0
Adds script before after cells = map (cell_of script) after ≡ map (cell_of script) before ++ cells
