-- How a task goes on after a turn: the ways in which a plan says it, and what the task is then (LIO, ICFP 2012).
use Rattle.std.specs.Prelude.{ℕ, ◌+◌, ◌-◌, true, List, [], ◌∷◌}
use Rattle.lio_labels.specs.declared.label.Label.{Label}
use Rattle.lio_values.specs.declared.fault.Fault.{Fault}
use Rattle.lio_values.specs.declared.value.Handle.{Handle}
use Rattle.lio_values.specs.declared.value.Plain.{Plain}
use Rattle.lio_values.specs.declared.value.Plain.TheVariants.{Unit as unit, RefOf, VarOf, ResultOf}
use Rattle.lio_values.specs.declared.value.Content.{Content}
use Rattle.lio_values.specs.declared.value.Content.TheVariants.{Kept, Faulted, Hidden}
use Rattle.lio_values.specs.declared.value.Value.{Value}
use Rattle.lio_values.specs.declared.value.Value.TheVariants.{Bare, Sealed}
use Rattle.lio_values.specs.declared.act.Act.{Act}
use Rattle.lio_values.specs.declared.act.Act.TheVariants as act
use Rattle.lio_values.specs.declared.act.Reply.{Reply}
use Rattle.lio_values.specs.declared.act.Reply.TheVariants.{Done, Got, Told, Refused}
use Rattle.lio_syntax_lines.specs.declared.line.Operand.{Operand}
use Rattle.lio_syntax_lines.specs.declared.line.Simple.{Simple}
use Rattle.lio_syntax.specs.Statements.{Statements, While}
use Rattle.lio_syntax.specs.Environment.{Environment, bind}
use Rattle.lio_syntax.specs.Throwing.{Place, thrown, returned}
use Rattle.lio_calculus.specs.Task.{TaskState}
use Rattle.lio_syntax.specs.Items.{Do, Access, Mark, Back, enter, rest_of}

-- how a task goes on after its turn
pub data Onward : Type 0 where
  -- with what comes next
  Advance : Onward
  -- and a name is bound to a value
  Bind : List ℕ → Value → Onward
  -- and a name is bound to a plain value, sealed under a label
  Seal : List ℕ → Label → Plain → Onward
  -- with a block
  Enter : Statements → Onward
  -- with the block of a loop, and then the loop again
  Repeat : Operand → Statements → Onward
  -- with a block whose faults a handler catches
  Try : Statements → List ℕ → List ℕ → Statements → Onward
  -- with a procedure's body in an environment of its own; a name is bound to what it returns
  Call : List ℕ → Environment → Statements → Onward
  -- with the caller, to which a value is returned
  Return : Value → Onward
  -- with the caller, in whose environment a name is bound to unit, since a procedure's body is done
  Leave : Environment → List ℕ → Onward
  -- at a raised label
  Raise : Label → Onward
  -- at a raised label, with an access
  RaiseTo : Label → Simple → Onward
  -- at a raised label, and a name is bound to what was sealed under the second label, or the fault that it is is thrown
  Unlabel : List ℕ → Label → Label → Content → Onward
  -- with a lower clearance
  Lower : Label → Onward
  -- and a name is bound to the content that was released, sealed under a label
  Release : List ℕ → Label → Onward
  -- at a raised label, and a name is bound to the content that was exposed, or the fault that it is is thrown
  Expose : List ℕ → Label → Onward
  -- and a name is bound to the handle of the new reference or variable, with this label
  HoldReference : List ℕ → Label → Onward
  HoldVariable : List ℕ → Label → Onward
  -- and a child took so many numbers behind its own, and so many turns; a name is bound to its result's handle, with this label
  Fork : List ℕ → Label → ℕ → ℕ → Onward
  Spawn : ℕ → ℕ → Onward
  -- and a name is bound to what was got, or to what was told; or the fault that was told is thrown
  BindReply : List ℕ → Onward
  -- with the nearest handler of a fault
  Throw : Fault → Onward
  -- not at all
  End : Onward

-- a task at a place
abbrev pub at : TaskState → Place → TaskState
at task place = record task { environment = place.environment; items = place.items }

-- a task in which a name is bound
abbrev pub binding : TaskState → List ℕ → Value → TaskState
binding task name value = record task { environment = bind task.environment name value }

-- a task that throws a fault
abbrev pub throwing : TaskState → Fault → TaskState
throwing task fault = at task (thrown fault task.environment task.items)

-- a task that is given a content: a kept value is bound, a fault is thrown, and what is hidden is bound as unit
abbrev pub given : TaskState → List ℕ → Content → TaskState
given task name (Kept plain) = binding task name (Bare plain)
given task name (Faulted fault) = throwing task fault
given task name Hidden = binding task name (Bare unit)

-- a task that is given a reply
abbrev pub replied : TaskState → List ℕ → Reply → TaskState
replied task name (Got value) = binding task name value
replied task name (Told content) = given task name content
replied task name Done = task
replied task name (Refused fault) = task

-- the content that an act releases or exposes
abbrev pub released : Act → Content
released (act.Release source target power content) = content
released (act.Expose source target power content) = content
released act = Hidden

-- a task that has taken numbers of its range, the first and so many behind it
abbrev pub taking : TaskState → ℕ → TaskState
taking task count = record task { first = task.first + 1 + count; cells = task.cells - (1 + count) }

-- a handle of the first number of a task's range
abbrev pub newest : TaskState → Label → Handle
newest task label = record { number = task.first; label = label }

-- a task that goes on, after its first item was dropped and its turn was spent
abbrev pub gone : TaskState → Onward → Act → Reply → TaskState
gone task Advance act reply = task
gone task (Bind name value) act reply = binding task name value
gone task (Seal name label plain) act reply = binding task name (Sealed label (Kept plain))
gone task (Enter block) act reply = record task { items = enter block task.items }
gone task (Repeat condition block) act reply = record task { items = enter block (Do (While condition block) ∷ task.items) }
gone task (Try block code payload handler) act reply = record task { items = enter block (Mark code payload handler ∷ task.items) }
gone task (Call name environment body) act reply = record task { environment = environment; items = enter body (Back task.environment name ∷ task.items) }
gone task (Return value) act reply = at task (returned value task.environment task.items)
gone task (Leave caller name) act reply = binding (record task { environment = caller }) name (Bare unit)
gone task (Raise label) act reply = record task { label = label }
gone task (RaiseTo label access) act reply = record task { label = label; items = Access access ∷ task.items }
gone task (Unlabel name label source content) act reply = given (record task { label = label }) name content
gone task (Lower clearance) act reply = record task { clearance = clearance }
gone task (Release name label) act reply = binding task name (Sealed label (released act))
gone task (Expose name label) act reply = given (record task { label = label }) name (released act)
gone task (HoldReference name label) act reply = taking (binding task name (Bare (RefOf (newest task label)))) 0
gone task (HoldVariable name label) act reply = taking (binding task name (Bare (VarOf (newest task label)))) 0
gone task (Fork name label cells turns) act reply = record (taking (binding task name (Bare (ResultOf (newest task label)))) cells) { turns = task.turns - turns }
gone task (Spawn cells turns) act reply = record (taking task cells) { turns = task.turns - turns }
gone task (BindReply name) act reply = replied task name reply
gone task (Throw fault) act reply = throwing task fault
gone task End act reply = record task { environment = []; items = []; ended = true }

-- a task after its turn: the item that acted is dropped, and one turn is spent, if one is left
unfoldable pub gone_on : TaskState → Onward → Act → Reply → TaskState
gone_on task onward act reply = gone (record task { items = rest_of task.items; turns = task.turns - 1 }) onward act reply
