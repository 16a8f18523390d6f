-- What a plan may count on: that the task it is made for has the labels, the numbers of its range and the node in front of it that its next turn needs
-- (the guards are those of LIO, ICFP 2012; ranges of numbers are this calculus's own).
use Rattle.std.specs.Prelude.{◌≡◌, ◌+◌, ◌<◌, ◌≤◌, Bool, true, false, IsTrue, ◌∷◌, length, Option, Some, None}
use Rattle.lio_labels.specs.Flow.{flows}
use Rattle.lio_values.specs.declared.act.Act.{Act}
use Rattle.lio_values.specs.declared.act.Act.TheVariants as act
use Rattle.lio_values.specs.declared.act.Birth.{Birth}
use Rattle.lio_syntax.specs.Statements as statement
use Rattle.lio_cells.specs.State.{Kind, Reference, Variable, Channel, Result as result}
use Rattle.lio_syntax.specs.Items.{Do, rest_of}
use Rattle.lio_calculus.specs.Task.{TaskState}
use Rattle.lio_calculus.specs.Going.{Onward, Raise, RaiseTo, Unlabel, Expose, Lower, HoldReference, HoldVariable, Fork, Spawn}
use Rattle.lio_calculus.specs.Plan.{Program, Plan, Over, Own, Visit, Target, Node, New, plan}

-- what a way of going on needs: a raised label below the clearance, with the statement of the access in front; a clearance above the label; or numbers that are left
abbrev pub Affords : TaskState → Onward → Type 0
Affords task (Raise label) = IsTrue (flows label task.clearance)
Affords task (RaiseTo label access) = IsTrue (flows label task.clearance) × (task.items ≡ Do (statement.Do access) ∷ rest_of task.items)
Affords task (Unlabel name label source content) = IsTrue (flows label task.clearance)
Affords task (Expose name label) = IsTrue (flows label task.clearance)
Affords task (Lower clearance) = IsTrue (flows task.label clearance)
Affords task (HoldReference name label) = 1 ≤ task.cells
Affords task (HoldVariable name label) = 1 ≤ task.cells
Affords task (Fork name label cells turns) = 1 + cells ≤ task.cells
Affords task (Spawn cells turns) = 1 + cells ≤ task.cells
Affords task onward = Unit {0}

-- a child can be born: its procedure is one of the program's, its range lies in the parent's, and the parent's label flows to its clearance
pub record CanBeBorn (program : Program) (task : TaskState) (birth : Birth) : Type 0 where
  pub procedure : birth.proc_at < length program.procedures
  pub range : birth.first + birth.cells ≤ task.first + task.cells
  pub cleared : IsTrue (flows task.label birth.clearance)

-- what an act needs: the child of a birth can be born
abbrev pub AffordsAct : Program → TaskState → Act → Type 0
AffordsAct program task (act.Fork birth) = CanBeBorn program task birth
AffordsAct program task (act.Spawn birth) = CanBeBorn program task birth
AffordsAct program task asked = Unit {0}

-- the acts that make a node
abbrev pub makes : Act → Bool
makes (act.NewRef label value) = true
makes (act.NewVar label value) = true
makes (act.Fork birth) = true
makes (act.Spawn birth) = true
makes asked = false

-- the kind of node that an act meets by a handle
abbrev pub kind_met : Act → Option Kind
kind_met act.Read = Some Reference
kind_met (act.Write value) = Some Reference
kind_met act.Take = Some Variable
kind_met (act.Put value) = Some Variable
kind_met act.Wait = Some result
kind_met (act.Send text) = Some Channel
kind_met asked = None

-- an act meets the node that it is for: a new one at the first number of the range, or one of its kind by a handle
abbrev pub Meets : TaskState → Act → Target → Type 0
Meets task asked (New number) = (number ≡ task.first) × IsTrue (makes asked)
Meets task asked (Node kind handle) = kind_met asked ≡ Some kind

-- the task affords a plan: how it goes on and, of a visit, the act and the node that it meets
abbrev pub AffordsPlan : Program → TaskState → Plan → Type 0
AffordsPlan program task Over = Unit {0}
AffordsPlan program task (Own asked reply onward) = Affords task onward
AffordsPlan program task (Visit asked target onward) = Affords task onward × AffordsAct program task asked × Meets task asked target

-- the law of plans: a task whose label flows to its clearance affords the plan of its next turn
abbrev pub PlanAfforded : Type 0
PlanAfforded = (program : Program) (task : TaskState) → IsTrue (flows task.label task.clearance) → AffordsPlan program task (plan program task)
