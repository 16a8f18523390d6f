-- What the task that a plan goes by stands for.
use Rattle.std.specs.Prelude.{ℕ, List}
use Rattle.lio_syntax_lines.specs.declared.line.Line.{Line}
use Rattle.lio_syntax.specs.Statements.{Procedure}
use Rattle.lio_calculus.specs.Plan.{Program}
use Rattle.lio_task_control.specs.Continuation.{place_of}
use Rattle.lio_calculus.specs.Task.{TaskState}
use Rattle.lio_task_turns.specs.declared.standing.Standing.{Standing}

-- the task of the definitions that stands so, with places in the lines of a script
abbrev pub state_of : List Line → Standing → TaskState
state_of lines task = record {
  environment = (place_of lines task.continuation.now).environment;
  items = (place_of lines task.continuation.now).items;
  label = task.label.now;
  clearance = task.clearance.now;
  turns = task.turns;
  first = task.first;
  cells = task.cells;
  ended = task.ended;
}

-- what the turns of a script go by
abbrev pub program_of : List Procedure → ℕ → Program
program_of script longest = record { procedures = script; longest = longest }
