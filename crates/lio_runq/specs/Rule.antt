-- The rule of a queue: what it holds, and what its passes have done.
use Rattle.std.specs.Prelude.{◌≡◌, ℕ, ◌+◌, ◌-◌, ◌^◌, ◌<◌, Bool, List, [], ◌∷◌, ◌++◌, All, length}
use Rattle.std.specs.List.{count_by, sum_by}
use mathlib.Core.Option.{some}
use lib.ListN.{get_elem?}
use Rattle.lio_runq.specs.declared.rule.PassView.{PassView}

-- what a pass has done: the numbers that it has pushed, the pushes left, and the numbers that it has popped, the first first
abbrev pub pass_of : List ℕ → ℕ → List ℕ → PassView
pass_of pushed left popped = record { pushed = pushed; left = left; popped = popped }

-- the pushes that a pass has made or may make
abbrev pub rights : PassView → ℕ
rights view = length view.pushed + view.left

-- how many of the numbers that a pass has pushed, or popped, pass a test
abbrev pub pushed_by : (ℕ → Bool) → PassView → ℕ
pushed_by p view = count_by p view.pushed

abbrev pub popped_by : (ℕ → Bool) → PassView → ℕ
popped_by p view = count_by p view.popped

-- Each number in the queue is below the bound; of the numbers that pass a test, whatever it is, as many were pushed by all passes as were popped and are in the queue; the pushes made and left of all passes are 2^61, and
-- each pass has one made or left; and a pass that is the only one has pushed what it has popped and then what is in the queue, in this order.
pub record IsQueueOf (bound : ℕ) (numbers : List ℕ) (views : List PassView) : Type 0 where
  pub below : All (λ n. n < bound) numbers
  pub balance : (p : ℕ → Bool) → sum_by (pushed_by p) views ≡ sum_by (popped_by p) views + count_by p numbers
  pub all : sum_by rights views ≡ 2 ^ 61
  pub each : All (λ view. 0 < rights view) views
  pub in_order : (view : PassView) → views ≡ view ∷ [] → view.pushed ≡ view.popped ++ numbers

-- a push of a number: it is the last one that the pass has pushed, and one push fewer is left
abbrev pub Pushes : PassView → ℕ → PassView → Type 0
Pushes old n new = new ≡ pass_of (old.pushed ++ n ∷ []) (old.left - 1) old.popped

-- a number comes first of those that a pass has pushed and not popped
pub record IsNext (view : PassView) (n : ℕ) : Type 0 where
  pub others : List ℕ
  pub pushed : view.pushed ≡ view.popped ++ n ∷ others

-- a pop of a number: it is below the bound, and the last one that the pass has popped; for a pass that has all pushes it is the first one that it had pushed and not popped
pub record Pops (bound : ℕ) (old : PassView) (n : ℕ) (new : PassView) : Type 0 where
  pub below : n < bound
  pub counted : new ≡ pass_of old.pushed old.left (old.popped ++ n ∷ [])
  pub sole : rights old ≡ 2 ^ 61 → IsNext old n

-- What is told by a pass of a queue that holds these numbers: the passes may have done what keeps the rule with them, the pass's own view among it; and a pass that has all pushes has pushed what it has popped and then
-- these numbers.
pub record EmptyTells (bound : ℕ) (view : PassView) (numbers : List ℕ) : Type 0 where
  pub views : List PassView
  pub number : ℕ
  pub own : get_elem? views number ≡ some view
  pub rule : IsQueueOf bound numbers views
  pub sole : rights view ≡ 2 ^ 61 → view.pushed ≡ view.popped ++ numbers
