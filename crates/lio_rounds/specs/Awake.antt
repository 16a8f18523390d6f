-- Who of an order is awake, and what a place that sleeps waits for, as the code keeps them.
use Rattle.std.specs.Prelude.{◌≡◌, ◌⊎◌, ℕ, ◌<◌, List, [], length, map, Option, Some, None, Vec, slice_index_or}
use Rattle.std.specs.declared.alloc.Global.{Global}
use Rattle.lio_rounds.specs.Words.{IsClear}
use Rattle.lio_values.specs.declared.entry.Entry.{Entry}
use Rattle.lio_task.specs.Outcome.{ended_in}
use Rattle.lio_rounds.specs.declared.places.Places.{Places}

-- a place is asleep
abbrev pub IsAsleep : Places → ℕ → Type 0
IsAsleep places place = IsClear places.words.items place

-- a place stands in a list
abbrev pub Lists : List ℕ → ℕ → Type 0
Lists places place = (i : ℕ) × (i < length places) × (slice_index_or places i 0 ≡ place)

-- a node that a turn met, or the node of a task that it ended, by its entry
abbrev pub Meets : Entry → ℕ → Type 0
Meets entry n = (entry.target ≡ Some n) ⊎ (ended_in entry ≡ Some n)

-- the places that are noted at a node
abbrev pub noted_at : List (Vec ℕ Global) → ℕ → List ℕ
noted_at waiting n = slice_index_or (map (λ v. v.items) waiting) n []

-- a place is noted at a node
abbrev pub Waits : List (Vec ℕ Global) → ℕ → ℕ → Type 0
Waits waiting n place = Lists (noted_at waiting n) place

-- a place is noted at its node, if it has one
abbrev pub IsNoted : List (Vec ℕ Global) → Option ℕ → ℕ → Type 0
IsNoted waiting (Some n) place = Waits waiting n place
IsNoted waiting None place = Unit {0}
