-- A turn of a well-formed configuration is guarded.
use Rattle.std.proofs.Common.{◌≡◌, ◌∙◌, refl, sym, ℕ, true, false, IsTrue, Option, Some, None, is_some, true≢false}
use Rattle.std.specs.Option.{option_map_or}
use Rattle.lio_labels.specs.Flow.{flows}
use Rattle.lio_labels.proofs.FlowLemmas.{flow_is_reflexive}
use Rattle.lio_values.specs.declared.fault.FaultKind.{FaultKind}
use Rattle.lio_values.specs.declared.act.Act.{Act}
use Rattle.lio_values.specs.declared.act.Reply.{Reply}
use Rattle.lio_values.specs.declared.act.Reply.TheVariants.{Refused}
use Rattle.lio_cells.specs.declared.state.State.{State}
use Rattle.lio_cells.specs.declared.state.State.TheVariants.{Job}
use Rattle.lio_cells.specs.State.{is_reference, is_variable, is_channel, is_job, label_of}
use Rattle.lio_guards.specs.Guard.{guarded}
use Rattle.lio_calculus.specs.Task.{TaskState}
use Rattle.lio_calculus.specs.Going.{Onward, Throw}
use Rattle.lio_calculus.specs.Plan.{Plan, Over, Own, Visit, Target, fault_at, refused}
use Rattle.lio_calculus.specs.Step.{Configuration, cell_at, Move, move_of}
use Rattle.lio_calculus.specs.Erased.{label_of_cell}
use Rattle.lio_calculus.specs.Guarded.{label_after, IsShown, IsAllowed, IsVisitGuarded, IsGuarded}
use Rattle.lio_calculus.specs.Sound.{IsSound}

-- a plan is guarded where the task can move by it
unfoldable pub GuardedBy : Configuration → ℕ → TaskState → Plan → Type 0
GuardedBy c k task p = (move : Move) → move_of (cell_at c) p ≡ Some move → IsGuarded c k task p

pub over-guarded : (c : Configuration) (k : ℕ) (task : TaskState) → GuardedBy c k task Over
unfolding GuardedBy
over-guarded c k task = λ move moves. tt

-- an act of the task's own that keeps the label
pub own-guarded : (c : Configuration) (k : ℕ) (task : TaskState) (asked : Act) (reply : Reply) (onward : Onward) → label_after onward task.label ≡ task.label → IsAllowed asked onward → IsShown asked reply → GuardedBy c k task (Own asked reply onward)
unfolding GuardedBy
own-guarded c k task asked reply onward keeps allowed shown = λ move moves. record { rises = rw keeps (flow_is_reflexive task.label); allowed = allowed; shown = shown }

-- a raise
pub raise-guarded : (c : Configuration) (k : ℕ) (task : TaskState) (asked : Act) (reply : Reply) (onward : Onward) → IsTrue (flows task.label (label_after onward task.label)) → IsAllowed asked onward → IsShown asked reply → GuardedBy c k task (Own asked reply onward)
unfolding GuardedBy
raise-guarded c k task asked reply onward rises allowed shown = λ move moves. record { rises = rises; allowed = allowed; shown = shown }

-- a visit, where the task can move
pub visit-guarded : (c : Configuration) (k : ℕ) (task : TaskState) (asked : Act) (target : Target) (onward : Onward) → IsVisitGuarded c k task asked target onward → GuardedBy c k task (Visit asked target onward)
unfolding GuardedBy
visit-guarded c k task asked target onward guarded = λ move moves. guarded

pub refused-guarded : (c : Configuration) (k : ℕ) (task : TaskState) (asked : Act) (kind : FaultKind) → IsShown asked (Refused (fault_at task kind)) → GuardedBy c k task (refused task asked kind)
refused-guarded c k task asked kind shown = own-guarded c k task asked (Refused (fault_at task kind)) (Throw (fault_at task kind)) refl tt shown

-- the cell of another kind isn't the task's own
pub reference-no_job : (state : State) → IsTrue (is_reference state) → is_job state ≡ true → ⊥
reference-no_job (Job label content) is job = true≢false (sym is)
reference-no_job state is job = true≢false (sym job)

pub variable-no_job : (state : State) → IsTrue (is_variable state) → is_job state ≡ true → ⊥
variable-no_job (Job label content) is job = true≢false (sym is)
variable-no_job state is job = true≢false (sym job)

pub channel-no_job : (state : State) → IsTrue (is_channel state) → is_job state ≡ true → ⊥
channel-no_job (Job label content) is job = true≢false (sym is)
channel-no_job state is job = true≢false (sym job)

-- a node of these kinds has no task, and so its own label
pub taskless : (c : Configuration) (n : ℕ) → IsSound c → is_job (cell_at c n).state ≡ false → label_of_cell (cell_at c n) ≡ label_of (cell_at c n).state
taskless c n sound no_ = by (cell_at c n).task (sound.jobs n ∙ no_)
  where
    by : (t : Option TaskState) → is_some t ≡ false → option_map_or (λ (task : TaskState). Some task.label) t (label_of (cell_at c n).state) ≡ label_of (cell_at c n).state
    by None e = refl
    by (Some task) e = absurd (true≢false e)
