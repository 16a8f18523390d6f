-- The handle that a task names ahead, and the node that its next turn meets by it (references, blocking variables, channels and results of tasks; LIO, ICFP 2012).
use Rattle.std.specs.Prelude.{◌≡◌, IsTrue, is_some, if◌then◌else◌, List, [], ◌∷◌, Option, Some, None}
use Rattle.lio_values.specs.declared.value.Handle.{Handle}
use Rattle.lio_values.specs.declared.act.Act.{Act}
use Rattle.lio_syntax_lines.specs.declared.line.Simple.{Simple}
use Rattle.lio_syntax_lines.specs.declared.line.Simple.TheVariants.{Write, Send}
use Rattle.lio_syntax.specs.Statements as statement
use Rattle.lio_cells.specs.State.{Kind}
use Rattle.lio_syntax.specs.Environment.{Environment}
use Rattle.lio_syntax.specs.Items.{Item, Do, Access}
use Rattle.lio_calculus.specs.Operands.{bound, seen_as, text_of, reference_of, channel_of}
use Rattle.lio_calculus.specs.Task.{TaskState}
use Rattle.lio_calculus.specs.Going.{Onward}
use Rattle.lio_calculus.specs.Plan.{Program, Target, Node, New, Visit, plan}
use Rattle.lio_calculus.specs.Afforded.{makes, kind_met}
use Rattle.lio_calculus.specs.Waiting.{handle_met}

-- the handle of the node that a statement writes or sends to, where its operands are of the needed kind
abbrev pub handle_written : Environment → Simple → Option Handle
handle_written environment (Write r a) = if is_some (bound environment a) then seen_as reference_of environment r else None
handle_written environment (Send c a) = if is_some (seen_as text_of environment a) then seen_as channel_of environment c else None
handle_written environment simple = None

-- the handle that the first item names, where it is an access, or a statement that writes or sends
abbrev pub handle_ahead : Environment → List Item → Option Handle
handle_ahead environment [] = None
handle_ahead environment (Access simple ∷ items) = handle_met environment simple
handle_ahead environment (Do (statement.Do simple) ∷ items) = handle_written environment simple
handle_ahead environment (item ∷ items) = None

-- a node that is met by a handle is of the kind that the act meets; one that is met by none is a new one, at the first number of the task's range
abbrev pub IsMetBy : TaskState → Act → Target → Option Handle → Type 0
IsMetBy task asked target None = (target ≡ New task.first) × IsTrue (makes asked)
IsMetBy task asked target (Some handle) = (kind : Kind) × (kind_met asked ≡ Some kind) × (target ≡ Node kind handle)

-- each visit meets its node by the handle that the task names ahead
abbrev pub VisitMeetsHandle : Type 0
VisitMeetsHandle = (program : Program) (task : TaskState) (asked : Act) (target : Target) (onward : Onward)
    → plan program task ≡ Visit asked target onward → IsMetBy task asked target (handle_ahead task.environment task.items)
