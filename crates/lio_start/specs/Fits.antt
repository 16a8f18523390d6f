-- Which tasks of a policy fit a script: those whose procedure is there, with as many parameters as the task has arguments.
use Rattle.std.specs.Prelude.{◌≡◌, ℕ, ◌+◌, ◌==◌, if◌then◌else◌, List, [], ◌∷◌, length, Option, Some, None, option_and_then, slice_get}
use Rattle.std.specs.Option.{option_or}
use Rattle.lio_syntax.specs.Statements.{Procedure}
use Rattle.lio_syntax.specs.Beginnings.{number_of}
use Rattle.lio_policy.specs.declared.policy.TaskEntry.{TaskEntry}
use Rattle.lio_start.specs.declared.fault.StartFault.{StartFault}
use Rattle.lio_start.specs.declared.fault.StartFault.TheVariants.{NoProc, Arity}

-- the first procedure of a script with a name
abbrev pub procedure_of : List Procedure → List ℕ → Option Procedure
procedure_of script name = option_and_then (slice_get script) (number_of script name)

-- the fault of a task at a place, of how many arguments it has and of its procedure
abbrev pub fault_by : ℕ → ℕ → Option Procedure → Option StartFault
fault_by place arguments None = Some (NoProc place)
fault_by place arguments (Some procedure) = if length procedure.parameters == arguments then None else Some (Arity place)

-- the fault of a task at a place, if it has one
unfoldable pub fault_of : List Procedure → ℕ → TaskEntry → Option StartFault
fault_of script place task = fault_by place (length task.args) (procedure_of script task.proc_name)

-- the first fault of tasks, the first of which stands at a place
unfoldable pub first_fault : List Procedure → ℕ → List TaskEntry → Option StartFault
first_fault script place [] = None
first_fault script place (task ∷ tasks) = option_or (fault_of script place task) (first_fault script (place + 1) tasks)

-- the first fault of a policy's tasks in a script
abbrev pub fits : List TaskEntry → List Procedure → Option StartFault
fits tasks script = first_fault script 0 tasks

-- a task fits: it has as many arguments as its procedure has parameters
pub record Fits (script : List Procedure) (task : TaskEntry) : Type 0 where
  pub procedure : Procedure
  pub is : procedure_of script task.proc_name ≡ Some procedure
  pub arity : length procedure.parameters ≡ length task.args

-- how many parameters a procedure has
abbrev pub parameter_count : Option Procedure → ℕ
parameter_count None = 0
parameter_count (Some procedure) = length procedure.parameters
