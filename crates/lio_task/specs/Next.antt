-- What a task's next turn does, and the task after it.
use Rattle.lio_values.specs.declared.act.Act.TheVariants as act
use Rattle.lio_values.specs.declared.act.Reply.TheVariants.{Done}
use Rattle.lio_calculus.specs.Task.{TaskState}
use Rattle.lio_calculus.specs.Plan.{Program, Plan, Over, Own, Visit, plan}
use Rattle.lio_calculus.specs.Step.{number_of}
pub use Rattle.lio_calculus.specs.Effect.{resumed, resumed_by}
use Rattle.lio_task_turns.specs.declared.turn.Turn.{Turn}
use Rattle.lio_task_turns.specs.declared.turn.Turn.TheVariants as turn
use Rattle.lio_task_turns.specs.Turns.{target_of}
use Rattle.lio_task.specs.declared.next.Next.{Next}
use Rattle.lio_task.specs.declared.next.Next.TheVariants as next

-- what a plan does
abbrev pub next_by : Plan → Next
next_by Over = next.Over
next_by (Own asked reply onward) = next.Own asked reply
next_by (Visit asked target onward) = next.Visit asked (number_of target)

-- what a turn does
abbrev pub next_in : Turn → Next
next_in (turn.Step onward) = next.Own act.Step Done
next_in (turn.Own asked reply onward) = next.Own asked reply
next_in (turn.Visit asked target onward) = next.Visit asked (number_of (target_of target))

-- what a task's next turn does
abbrev pub next_of : Program → TaskState → Next
next_of program task = next_by (plan program task)
