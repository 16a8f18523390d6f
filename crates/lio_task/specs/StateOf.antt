-- What the code's tasks stand for.
use Rattle.std.specs.Prelude.{List}
use Rattle.lio_syntax_lines.specs.declared.line.Line.{Line}
use Rattle.lio_syntax.specs.Lines.{script_lines}
use Rattle.lio_syntax.specs.Statements.{Procedure}
use Rattle.lio_task_control.specs.Continuation.{place_of}
use Rattle.lio_calculus.specs.Task.{TaskState}
use Rattle.lio_task.specs.declared.task.Task.{Task}

-- the task of the definitions that a task with places in the lines of a script stands for
abbrev pub state_of : List Line → Task → TaskState
state_of lines task = record {
  environment = (place_of lines task.continuation).environment;
  items = (place_of lines task.continuation).items;
  label = task.label;
  clearance = task.clearance;
  turns = task.turns;
  first = task.first;
  cells = task.cells;
  ended = task.ended;
}

-- the task of the definitions that a task of a script stands for
abbrev pub state_in : List Procedure → Task → TaskState
state_in script task = state_of (script_lines script) task
