-- The laws of well-formed configurations: turns and runs keep all their parts, and what these are good for (the configurations are those of LIO, ICFP 2012).
use Rattle.std.specs.Prelude.{◌≡◌, ℕ, ◌+◌, ◌<◌, ◌≤◌, ◌^◌, nat_le, if◌then◌else◌, List, [], ◌∷◌, length, Some, slice_get}
use Rattle.lio_labels.specs.declared.label.Label.{Label}
use Rattle.lio_values.specs.declared.fault.FaultKind.TheVariants.{Depth}
use Rattle.lio_values.specs.declared.value.Value.{Value}
use Rattle.lio_values.specs.declared.act.Act.TheVariants as act
use Rattle.lio_syntax_lines.specs.declared.line.Operand.{Operand}
use Rattle.lio_syntax_lines.specs.declared.line.Simple.{Simple}
use Rattle.lio_syntax_lines.specs.declared.line.Simple.TheVariants as line
use Rattle.lio_syntax.specs.Statements.{Procedure}
use Rattle.lio_syntax.specs.Statements as statement
use Rattle.lio_syntax.specs.Lines.{script_lines}
use Rattle.lio_syntax.specs.Kept.{KeepsRules}
use Rattle.lio_syntax.specs.Environment.{bind_all}
use Rattle.lio_syntax.specs.Items.{Item, Do, open_calls}
use Rattle.lio_calculus.specs.Operands.{all_bound, seen_as, label_of, count_of}
use Rattle.lio_calculus.specs.Task.{TaskState}
use Rattle.lio_calculus.specs.Going.{Call}
use Rattle.lio_calculus.specs.Plan.{Plan, stepping, refused, procedure_at, birth_of, forking, spawning, plan_items}
use Rattle.lio_calculus.specs.Step.{Configuration, Turn, step}
use Rattle.lio_calculus.specs.Run.{Ran, run}
use Rattle.lio_calculus.specs.Sound.{IsTaskOf}
use Rattle.lio_calculus_runs.specs.Calls.{ScriptFits, CallsFit}
use Rattle.lio_calculus_runs.specs.Turns.{turns_left}
use Rattle.lio_calculus_runs.specs.WellFormed.{IsWellFormed}

-- each turn keeps a configuration well-formed
abbrev pub TurnKeepsWellFormed : Type 0
TurnKeepsWellFormed = (ticket : ℕ) (c : Configuration) (k : ℕ) (task : TaskState) (turn : Turn) → IsWellFormed c → IsTaskOf c k task → step ticket c k ≡ Some turn → IsWellFormed turn.next

-- so does a run
abbrev pub RunKeepsWellFormed : Type 0
RunKeepsWellFormed = (ticket : ℕ) (c : Configuration) (ks : List ℕ) (ran : Ran) → IsWellFormed c → run ticket c ks ≡ Some ran → IsWellFormed ran.last

-- in every configuration calls that fit go on to fit, sound or not
abbrev pub TurnKeepsCalls : Type 0
TurnKeepsCalls = (ticket : ℕ) (c : Configuration) (k : ℕ) (turn : Turn) → CallsFit c → step ticket c k ≡ Some turn → CallsFit turn.next

-- and no turn adds to the turns that are left
abbrev pub TurnAddsNoTurns : Type 0
TurnAddsNoTurns = (ticket : ℕ) (c : Configuration) (k : ℕ) (turn : Turn) → step ticket c k ≡ Some turn → turns_left turn.next ≤ turns_left c

-- a run from a well-formed configuration has fewer than 2^42 entries
abbrev pub RunIsShort : Type 0
RunIsShort = (ticket : ℕ) (c : Configuration) (ks : List ℕ) (ran : Ran) → IsWellFormed c → run ticket c ks ≡ Some ran → length ran.entries < 2 ^ 42

-- the calls of a script fit whose lines break no rule
abbrev pub RulesFitCalls : Type 0
RulesFitCalls = (script : List Procedure) → KeepsRules (script_lines script) → ScriptFits script

-- a statement that opens no block is what a task of a well-formed configuration does next
pub record IsNext (c : Configuration) (k : ℕ) (task : TaskState) (simple : Simple) : Type 0 where
  pub well_formed : IsWellFormed c
  pub is : IsTaskOf c k task
  pub later : List Item
  pub items : task.items ≡ Do (statement.Do simple) ∷ later

-- a task begins a procedure with values: the first of the program's with the name is there, with a parameter for each value, and the plan goes on with it
pub record BeginsProcedure (c : Configuration) (task : TaskState) (name : List ℕ) (values : List Value) (goes_on : ℕ → Procedure → Plan) : Type 0 where
  pub place : ℕ
  pub procedure : Procedure
  pub number : procedure_at c.program name ≡ Some place
  pub is : slice_get c.program.procedures place ≡ Some procedure
  pub arity : length procedure.parameters ≡ length values
  pub plan : plan_items c.program task task.items ≡ goes_on place procedure

-- So no call is refused for its procedure: where its arguments are bound, it begins the procedure with a value for each parameter, unless 64 calls are open.
abbrev pub CallBeginsProcedure : Type 0
CallBeginsProcedure = (c : Configuration) (k : ℕ) (task : TaskState) (x p : List ℕ) (arguments : List Operand) (values : List Value)
    → IsNext c k task (line.Call x p arguments) → all_bound task.environment arguments ≡ Some values
    → BeginsProcedure c task p values
    (λ place procedure. if nat_le 64 (open_calls task.items) then refused task act.Step Depth else stepping (Call x (bind_all [] procedure.parameters values) procedure.body))

-- Nor is a fork: where its label, its counts and its arguments are there, its child's procedure is one of the program's, with a value for each parameter.
abbrev pub ForkBeginsProcedure : Type 0
ForkBeginsProcedure = (c : Configuration) (k : ℕ) (task : TaskState) (x : List ℕ) (l t n : Operand) (p : List ℕ) (arguments : List Operand) (label : Label) (turns cells : ℕ) (values : List Value)
    → IsNext c k task (line.Fork x l t n p arguments) → seen_as label_of task.environment l ≡ Some label → seen_as count_of task.environment t ≡ Some turns
    → seen_as count_of task.environment n ≡ Some cells → all_bound task.environment arguments ≡ Some values
    → BeginsProcedure c task p values (λ place procedure. forking task x label turns cells (birth_of place values label label turns (task.first + 1) cells))

-- Nor is a spawn.
abbrev pub SpawnBeginsProcedure : Type 0
SpawnBeginsProcedure = (c : Configuration) (k : ℕ) (task : TaskState) (t n : Operand) (p : List ℕ) (arguments : List Operand) (turns cells : ℕ) (values : List Value)
    → IsNext c k task (line.Spawn t n p arguments) → seen_as count_of task.environment t ≡ Some turns → seen_as count_of task.environment n ≡ Some cells
    → all_bound task.environment arguments ≡ Some values
    → BeginsProcedure c task p values (λ place procedure. spawning task turns cells (birth_of place values task.clearance task.clearance turns (task.first + 1) cells))
