-- The nodes that visits meet: in a sound configuration each is there.
use Rattle.std.specs.Prelude.{◌≡◌, ℕ, ◌<◌, true, false, length}
use Rattle.lio_values.specs.declared.act.Act.{Act}
use Rattle.lio_cells.specs.State.{ready as is_ready, state_after}
use Rattle.lio_calculus.specs.Task.{TaskState}
use Rattle.lio_calculus.specs.Going.{Onward}
use Rattle.lio_calculus.specs.Plan.{Visit, Target, plan}
use Rattle.lio_calculus.specs.Step.{Configuration, cell_at, number_of, is_met, waits}
use Rattle.lio_calculus.specs.Sound.{IsTaskOf, IsSound}

-- The act of task k meets a node that is there.
pub record MeetsNode (c : Configuration) (k : ℕ) (asked : Act) (target : Target) : Type 0 where
  -- the node's number is one of the configuration's
  pub within : number_of target < length c.cells
  -- it is the node that the handle names, or a new one
  pub met : is_met target (cell_at c (number_of target)).state ≡ true
  -- an act that doesn't wait finds its node ready
  pub ready : waits asked ≡ false → is_ready (cell_at c (number_of target)).state asked ≡ true
  -- a node that is ready is another than the actor's own
  pub other : is_ready (cell_at c (number_of target)).state asked ≡ true → k ≡ number_of target → ⊥
  -- a visit leaves the actor's own node as it is
  pub own : state_after (cell_at c k).state asked ≡ (cell_at c k).state

-- in a sound configuration each visit meets a node that is there
abbrev pub VisitMeetsNode : Type 0
VisitMeetsNode = (c : Configuration) (k : ℕ) (task : TaskState) (asked : Act) (target : Target) (onward : Onward)
    → IsSound c → IsTaskOf c k task → plan c.program task ≡ Visit asked target onward → MeetsNode c k asked target
