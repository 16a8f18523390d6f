-- What the plan of a task's next turn gives: what it does, and the task after it.
use Rattle.std.proofs.Common.{◌≡◌, ◌∙◌, refl, sym, ap, subst, IsTrue, List}
use Rattle.lio_labels.specs.Flow.{flows}
use Rattle.lio_values.specs.declared.act.Act.{Act}
use Rattle.lio_values.specs.declared.act.Reply.{Reply}
use Rattle.lio_syntax_lines.specs.declared.line.Line.{Line}
use Rattle.lio_syntax_lines.specs.declared.line.Simple.{Simple}
use Rattle.lio_calculus.specs.Task.{TaskState}
use Rattle.lio_calculus.specs.Going.{gone_on}
use Rattle.lio_calculus.specs.Plan.{Program, plan}
use Rattle.lio_calculus.specs.Afforded.{Affords, AffordsPlan}
use Rattle.lio_calculus.proofs.AffordedLemmas.{plan_affords}
use Rattle.lio_task_plan.specs.declared.plan.Plan.{Plan}
use Rattle.lio_task_plan.specs.Planned.{IsPlanned, plan_by, simple_of}
use Rattle.lio_task_turns.specs.declared.turn.Turn.{Turn}
use Rattle.lio_task_turns.specs.declared.turn.Turn.TheVariants as turn
use Rattle.lio_task_turns.specs.Turns.{onward_in, onward_of, turn_of}
use Rattle.lio_task.specs.Next.{next_by, next_in, next_of, resumed_by, resumed}

-- what a plan does is what the task's next turn does
pub next_is : (program : Program) (task : TaskState) (p : Plan) → IsPlanned program task p → next_by (plan_by program task task.items p) ≡ next_of program task
next_is program task p e = ap next_by e

-- and what a turn does is what its plan does
pub turn_does : (lines : List Line) (simple : Simple) (t : Turn) → next_in t ≡ next_by (turn_of lines simple t)
turn_does lines simple (turn.Step onward) = refl
turn_does lines simple (turn.Own act reply onward) = refl
turn_does lines simple (turn.Visit act target onward) = refl

-- a task affords how it goes on after a turn
pub turn_afforded : (program : Program) (lines : List Line) (task : TaskState) (t : Turn) → IsTrue (flows task.label task.clearance) → turn_of lines (simple_of task.items) t ≡ plan program task
    → Affords task (onward_of lines (simple_of task.items) (onward_in t))
turn_afforded program lines task (turn.Step onward) cleared e = subst (AffordsPlan program task) (sym e) (plan_affords program task cleared)
turn_afforded program lines task (turn.Own asked reply onward) cleared e = subst (AffordsPlan program task) (sym e) (plan_affords program task cleared)
turn_afforded program lines task (turn.Visit asked target onward) cleared e = (subst (AffordsPlan program task) (sym e) (plan_affords program task cleared)).0

-- a task after its turn
pub turn_resumes : (lines : List Line) (task : TaskState) (asked : Act) (reply : Reply) (t : Turn) → gone_on task (onward_of lines (simple_of task.items) (onward_in t)) asked reply ≡ resumed_by task asked reply (turn_of lines (simple_of task.items) t)
turn_resumes lines task asked reply (turn.Step onward) = refl
turn_resumes lines task asked reply (turn.Own act answer onward) = refl
turn_resumes lines task asked reply (turn.Visit act target onward) = refl

-- a task after the turn of its plan
pub planned_resumes : (program : Program) (task new : TaskState) (asked : Act) (reply : Reply) (p : Plan) → IsPlanned program task p
    → new ≡ resumed_by task asked reply (plan_by program task task.items p) → new ≡ resumed program task asked reply
planned_resumes program task new asked reply p e f = f ∙ ap (resumed_by task asked reply) e
