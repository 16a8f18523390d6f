-- Words for the contracts of a step, over a configuration.
use Rattle.std.specs.Prelude.{◌≡◌, ℕ, false, List, Option, Some, None, option_and_then}
use Rattle.std.specs.Option.{option_map}
use Rattle.lio_values.specs.declared.act.Act.{Act}
use Rattle.lio_values.specs.declared.act.Reply.{Reply}
use Rattle.lio_values.specs.declared.entry.Entry.{Entry}
use Rattle.lio_syntax.specs.Statements.{Procedure}
use Rattle.lio_syntax.specs.Lines.{script_lines}
use Rattle.lio_calculus.specs.Plan.{Own, Target, Visit, plan}
use Rattle.lio_calculus.specs.Step.{Configuration, can, number_of, step}
use Rattle.lio_task_control.specs.Front.{AtStatement}
use Rattle.lio_task_turns.specs.declared.turn.Onward.{Onward}
use Rattle.lio_task_plan.specs.declared.plan.Full.{Full}
use Rattle.lio_task_plan.specs.Leads.{LeadsFull}
use Rattle.lio_task_plan.specs.Planned.{full_by, simple_of}
use Rattle.lio_task_turns.specs.Turns.{onward_of}
use Rattle.lio_task_turns.specs.StateOf.{program_of}
use Rattle.lio_task.specs.declared.config.StepFault.{StepFault}
use Rattle.lio_task.specs.declared.config.StepFault.TheVariants.{Still, NoMemory}
use Rattle.lio_task.specs.declared.config.Config.{Config}
use Rattle.lio_task.specs.declared.go.Way.{Way}
use Rattle.lio_task.specs.declared.task.Task.{Task}
use Rattle.lio_task.specs.declared.status.Status.{Status}
use Rattle.lio_task.specs.declared.status.Status.TheVariants as status
use Rattle.lio_task.specs.Goes.{CanGo, way_of}
use Rattle.lio_task.specs.Status.{status_of}
use Rattle.lio_task.specs.StateOf.{state_in}
use Rattle.lio_task.specs.Configuration.{task_in}

-- a task that is there plans an act of its own, and can go on as it says
pub record PlansOwn (script : List Procedure) (longest : ℕ) (found : Option Task) (asked : Act) (reply : Reply) (way : Way) : Type 0 where
  pub task : Task
  pub is : found ≡ Some task
  pub can_go : CanGo script task way
  pub plans : plan (program_of script longest) (state_in script task) ≡ Own asked reply (way_of (script_lines script) (state_in script task).items way)

-- a task that is there plans an act that meets the node with a number, and a statement or an access comes first
pub record PlansVisit (script : List Procedure) (longest : ℕ) (found : Option Task) (asked : Act) (n : ℕ) (onward : Onward) : Type 0 where
  pub task : Task
  pub is : found ≡ Some task
  pub at : AtStatement (state_in script task).items
  pub target : Target
  pub number : number_of target ≡ n
  pub plans : plan (program_of script longest) (state_in script task) ≡ Visit asked target (onward_of (script_lines script) (simple_of (state_in script task).items) onward)

-- the turn of a task that is there is planned in full
pub record PlansFull (script : List Procedure) (longest : ℕ) (found : Option Task) (turn : Full) : Type 0 where
  pub task : Task
  pub is : found ≡ Some task
  pub leads : LeadsFull (state_in script task).items turn
  pub plans : plan (program_of script longest) (state_in script task) ≡ full_by (program_of script longest) (state_in script task) turn

-- the step of the task with a number shows this entry, and leads to another configuration
abbrev pub Steps : Configuration → Configuration → ℕ → ℕ → Entry → Type 0
Steps c next k ticket entry = step ticket c k ≡ Some (record { entry = entry; next = next })

-- the step of the task with a number would show this entry
abbrev pub WouldShow : Configuration → ℕ → ℕ → Entry → Type 0
WouldShow c k ticket entry = option_map (λ turn. turn.entry) (step ticket c k) ≡ Some entry

-- why a task takes no turn: it can't, or no memory is left
abbrev pub Stays : Configuration → ℕ → StepFault → Type 0
Stays c k (Still n) = (n ≡ k) × (can c k ≡ false)
Stays c k NoMemory = Unit {0}

-- the number of the node at whose access a task stands
abbrev pub awaited_by : Status → Option ℕ
awaited_by (status.Access n wish) = Some n
awaited_by (status.Reading n) = Some n
awaited_by other = None

-- the number of the node at whose access the task with a number stands, if there is such a task and it stands at one
abbrev pub awaited_at : List Procedure → Config → ℕ → Option ℕ
awaited_at script config k = option_and_then (λ (task : Task). awaited_by (status_of (state_in script task))) (task_in config k)
