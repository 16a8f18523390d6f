-- Who of an order may sleep.
use Rattle.std.specs.Prelude.{◌≡◌, ◌⊎◌, ℕ, ◌<◌, true, false, List, length, Some, Vec, slice_index_or}
use Rattle.std.specs.declared.alloc.Global.{Global}
use Rattle.lio_calculus.specs.Task.{TaskState}
use Rattle.lio_calculus.specs.Step.{Configuration, can}
use Rattle.lio_calculus.specs.Sound.{IsTaskOf}
use Rattle.lio_task.specs.Status.{status_of}
use Rattle.lio_task.specs.Takes.{awaited_by}
use Rattle.lio_rounds.specs.Awake.{IsAsleep, Waits}
use Rattle.lio_rounds.specs.declared.awake.Awake.{Awake}

-- a task is noted at the node that it waits for
pub record IsNotedAt (waiting : List (Vec ℕ Global)) (task : TaskState) (place : ℕ) : Type 0 where
  pub node : ℕ
  pub awaits : awaited_by (status_of task) ≡ Some node
  pub noted : Waits waiting node place

-- the task of a place can't take a turn, and has ended or waits for a node at which the place is noted
pub record MaySleep (c : Configuration) (waiting : List (Vec ℕ Global)) (k place : ℕ) : Type 0 where
  pub still : can c k ≡ false
  pub task : TaskState
  pub is : IsTaskOf c k task
  pub waits : (task.ended ≡ true) ⊎ IsNotedAt waiting task place

-- a place that sleeps is one of the order, and may sleep
abbrev pub SleepersMay : Configuration → List ℕ → Awake → Type 0
SleepersMay c order awake = (place : ℕ) → IsAsleep awake.places place → (place < length order) × MaySleep c awake.waiting.items (slice_index_or order place 0) place
