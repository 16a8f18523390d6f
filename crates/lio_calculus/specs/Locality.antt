-- What a turn touches: it changes the actor's cell and at most its target's, and goes by these two alone; a refused turn changes the actor's alone
-- (the small step of the concurrent calculus of LIO, ICFP 2012).
use Rattle.std.specs.Prelude.{◌≡◌, ℕ, ◌-◌, length, Option, Some, None, ◌⊎◌}
use Rattle.std.specs.Option.{option_map}
use Rattle.lio_values.specs.declared.fault.Fault.{Fault}
use Rattle.lio_values.specs.declared.act.Reply.TheVariants.{Refused}
use Rattle.lio_syntax.specs.Items.{rest_of}
use Rattle.lio_calculus.specs.Task.{TaskState}
use Rattle.lio_calculus.specs.Going.{throwing}
use Rattle.lio_calculus.specs.Plan.{Plan, Over, Own, Visit, plan}
use Rattle.lio_calculus.specs.Step.{Configuration, Turn, cell_at, number_of, step}
use Rattle.lio_calculus.specs.Sound.{IsTaskOf, IsSound}

-- A turn of task k changes two cells at most.
pub record ChangesTwoCells (c : Configuration) (k : ℕ) (turn : Turn) : Type 0 where
  -- each cell but the actor's and the one that the entry shows as its target is as it was
  pub elsewhere : (n : ℕ) → (n ≡ k → ⊥) → (turn.entry.target ≡ Some n → ⊥) → cell_at turn.next n ≡ cell_at c n
  pub actor : turn.entry.actor ≡ k
  -- the program stays, and so does the number of cells
  pub program : turn.next.program ≡ c.program
  pub size : length turn.next.cells ≡ length c.cells
  -- a refused turn has no target
  pub refused : (fault : Fault) → turn.entry.reply ≡ Refused fault → turn.entry.target ≡ None

-- each turn changes two cells at most
abbrev pub StepChangesTwoCells : Type 0
StepChangesTwoCells = (ticket : ℕ) (c : Configuration) (k : ℕ) (turn : Turn) → step ticket c k ≡ Some turn → ChangesTwoCells c k turn

-- the number of the node that a plan visits
abbrev pub visited : Plan → Option ℕ
visited Over = None
visited (Own act reply onward) = None
visited (Visit act target onward) = Some (number_of target)

-- Two configurations are the same where task k looks: in the program, in its own cell, and in the cell that its plan visits.
pub record SameWhereItLooks (c d : Configuration) (k : ℕ) : Type 0 where
  pub program : c.program ≡ d.program
  pub actor : cell_at c k ≡ cell_at d k
  pub target : (task : TaskState) (n : ℕ) → IsTaskOf c k task → visited (plan c.program task) ≡ Some n → cell_at c n ≡ cell_at d n

-- there a task takes the same turn, with the same entry, or none in both
abbrev pub StepLooksAtTwoCells : Type 0
StepLooksAtTwoCells = (ticket : ℕ) (c d : Configuration) (k : ℕ) → SameWhereItLooks c d k → option_map (λ turn. turn.entry) (step ticket c k) ≡ option_map (λ turn. turn.entry) (step ticket d k)

-- and where the configurations have as many cells, the actor's cell and the target's are the same after it
abbrev pub StepMakesTheSameCells : Type 0
StepMakesTheSameCells = (ticket : ℕ) (c d : Configuration) (k : ℕ) (one two : Turn)
    → SameWhereItLooks c d k → length c.cells ≡ length d.cells → step ticket c k ≡ Some one → step ticket d k ≡ Some two
    → (n : ℕ) → (n ≡ k) ⊎ (one.entry.target ≡ Some n) → cell_at one.next n ≡ cell_at two.next n

-- a task after a refused turn: its first item is dropped, one turn is spent, if one is left, and the fault is thrown
abbrev pub after_refusal : TaskState → Fault → TaskState
after_refusal task fault = throwing (record task { items = rest_of task.items; turns = task.turns - 1 }) fault

-- a task keeps its labels and its range, and doesn't end
pub record KeepsLabelsAndRange (before after : TaskState) : Type 0 where
  pub label : after.label ≡ before.label
  pub clearance : after.clearance ≡ before.clearance
  pub first : after.first ≡ before.first
  pub cells : after.cells ≡ before.cells
  pub ended : after.ended ≡ before.ended

-- A turn of task k that was refused with a fault changes the actor's cell alone, and in it the task's turns, items and environment.
pub record ChangesActorAlone (c : Configuration) (k : ℕ) (task : TaskState) (fault : Fault) (turn : Turn) : Type 0 where
  pub elsewhere : (n : ℕ) → (n ≡ k → ⊥) → cell_at turn.next n ≡ cell_at c n
  pub actor : IsTaskOf turn.next k (after_refusal task fault)
  pub keeps : KeepsLabelsAndRange task (after_refusal task fault)
  -- in a sound configuration its node is as it was
  pub state : IsSound c → (cell_at turn.next k).state ≡ (cell_at c k).state

abbrev pub RefusedTurnChangesActorAlone : Type 0
RefusedTurnChangesActorAlone = (ticket : ℕ) (c : Configuration) (k : ℕ) (task : TaskState) (turn : Turn) (fault : Fault)
    → IsTaskOf c k task → step ticket c k ≡ Some turn → turn.entry.reply ≡ Refused fault → ChangesActorAlone c k task fault turn
