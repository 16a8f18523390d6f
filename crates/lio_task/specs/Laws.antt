-- The law of the parts of a turn.
use Rattle.std.specs.Prelude.{◌≡◌, ℕ, true, false, Some, None}
use Rattle.lio_values.specs.declared.act.Act.{Act}
use Rattle.lio_values.specs.declared.act.Reply.{Reply}
use Rattle.lio_cells.specs.State.{ready as is_ready, answer, state_after}
use Rattle.lio_calculus.specs.Task.{TaskState}
use Rattle.lio_calculus.specs.Sound.{IsSound, IsTaskOf}
use Rattle.lio_calculus.specs.Step.{Cell, Configuration, cell_at, met_after, step, with_cell}
use Rattle.lio_task.specs.declared.next.Next.TheVariants as next
use Rattle.lio_task.specs.Next.{next_of, resumed}

-- the actor's cell after its turn: its node serves the act, and its task goes on with the act and the reply
abbrev pub actor_cell : Configuration → ℕ → TaskState → Act → Reply → Cell
actor_cell c k task asked reply = record { state = state_after (cell_at c k).state asked; task = Some (resumed c.program task asked reply) }

-- The step of a task is made of parts: what the task's next turn does, what the node that it meets is ready for and answers, what that node becomes, and how the task goes on.
pub record IsMadeOfParts (ticket : ℕ) (c : Configuration) (k : ℕ) (task : TaskState) : Type 0 where
  -- a task that has ended takes no turn
  pub over : next_of c.program task ≡ next.Over → step ticket c k ≡ None
  -- an act of the task's own has its reply with it
  pub own : (asked : Act) (reply : Reply) → next_of c.program task ≡ next.Own asked reply
      → step ticket c k ≡ Some (record {
        entry = record { ticket = ticket; actor = k; target = None; at = task.label; act = asked; reply = reply };
        next = with_cell c k (actor_cell c k task asked reply);
      })
  -- an act that meets a node waits while the node isn't ready
  pub still : (asked : Act) (n : ℕ) → next_of c.program task ≡ next.Visit asked n → is_ready (cell_at c n).state asked ≡ false → step ticket c k ≡ None
  -- and else has the node's answer
  pub visit : (asked : Act) (n : ℕ) → next_of c.program task ≡ next.Visit asked n → is_ready (cell_at c n).state asked ≡ true
      → step ticket c k ≡ Some (record {
        entry = record { ticket = ticket; actor = k; target = Some n; at = task.label; act = asked; reply = answer (cell_at c n).state asked };
        next = with_cell (with_cell c n (met_after c.program task.label asked (cell_at c n))) k (actor_cell c k task asked (answer (cell_at c n).state asked));
      })

-- in a sound configuration
abbrev pub StepIsMadeOfParts : Type 0
StepIsMadeOfParts = (ticket : ℕ) (c : Configuration) (k : ℕ) (task : TaskState) → IsSound c → IsTaskOf c k task → IsMadeOfParts ticket c k task
