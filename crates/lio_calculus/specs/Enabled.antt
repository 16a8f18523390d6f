-- Which tasks can take a turn in the erased calculus: those that an observer sees and that can take one (the erasure of the concurrent calculus of LIO, ICFP 2012).
use Rattle.std.specs.Prelude.{◌≡◌, ℕ, Bool, false, IsTrue, IsFalse, List, ◌∷◌, None, is_some}
use Rattle.lio_labels.specs.declared.label.Label.{Label}
use Rattle.lio_labels.specs.Flow.{flows}
use Rattle.lio_values.specs.declared.value.Content.{Content}
use Rattle.lio_calculus.specs.Task.{TaskState}
use Rattle.lio_calculus.specs.Step.{Configuration, cell_at, can}
use Rattle.lio_calculus.specs.Erased.{erase, low}
use Rattle.lio_calculus.specs.Sound.{IsTaskOf, IsSound}

-- whether task k can take a turn in the erased calculus, where the released contents that it needs are there
abbrev pub low_can : Label → Configuration → ℕ → Bool
low_can observer c k = can (erase observer c) k

-- Whether task k can take a turn in the erased calculus.
pub record EnabledBelow (observer : Label) (c : Configuration) (k : ℕ) : Type 0 where
  -- a task whose label flows to the observer's can exactly where it can in the calculus
  pub seen : (task : TaskState) → IsTaskOf c k task → IsTrue (flows task.label observer) → low_can observer c k ≡ can c k
  -- one whose label doesn't can't, nor can what is no task
  pub unseen : (task : TaskState) → IsTaskOf c k task → IsFalse (flows task.label observer) → low_can observer c k ≡ false
  pub absent : (cell_at c k).task ≡ None → low_can observer c k ≡ false

-- whether a task that an observer sees goes on is decided by what the observer sees
abbrev pub SeenTaskIsEnabledBelow : Type 0
SeenTaskIsEnabledBelow = (observer : Label) (c : Configuration) (k : ℕ) → IsSound c → EnabledBelow observer c k

-- The erased step of task k, and whether the task can take a turn.
pub record TurnsWhereEnabled (observer : Label) (ticket : ℕ) (c : Configuration) (k : ℕ) : Type 0 where
  -- it is defined only where the task can, whatever was released
  pub alone : (contents : List Content) → IsTrue (is_some (low observer ticket c k contents)) → IsTrue (can c k)
  -- and wherever the task can, if a released content is left
  pub supplied : (content : Content) (contents : List Content) → is_some (low observer ticket c k (content ∷ contents)) ≡ can c k

-- so the erased step is undefined only for a task that can't take a turn, or for want of a released content
abbrev pub LowTurnsWhereEnabled : Type 0
LowTurnsWhereEnabled = (observer : Label) (ticket : ℕ) (c : Configuration) (k : ℕ) → TurnsWhereEnabled observer ticket c k
