-- Words for the invariant and for private functions, which see a clause as 64 bits.
use Rattle.std.specs.Prelude.{◌≡◌, ℕ, ◌^◌, ◌<◌, ◌≤◌, Bool, true, false, List, map, length, IsTrue, bit_and, bit_or, ◌==◌, Option, Some, None}
use Rattle.std.specs.List.{list_any, flat_map, All, Contains}
use Rattle.lio_clauses.specs.Principals.{principals}
use Rattle.lio_clauses.specs.Canonical.{in_order, is_before, IsCanonical}

-- at most 64 clauses of 64 bits that are a canonical formula
pub record IsFormula (clauses : List ℕ) : Type 0 where
  pub fits : All (λ m. m < 2 ^ 64) clauses
  pub canonical : IsCanonical (map principals clauses)
  pub few : length clauses ≤ 64

-- whether a clause contains one of the kept ones
abbrev pub covers : List ℕ → ℕ → Bool
covers kept clause = list_any (λ k. bit_and k clause == k) kept

-- the unions of a clause of each side
abbrev pub unions : List ℕ → List ℕ → List ℕ
unions left right = flat_map (λ a. map (bit_or a) right) left

-- the least, as a number, of the clauses that contain no kept one, if there is one
abbrev pub IsLeastUncovered : List ℕ → List ℕ → Option ℕ → Type 0
IsLeastUncovered kept clauses None = All (λ u. covers kept u ≡ true) clauses
IsLeastUncovered kept clauses (Some m) = Contains clauses m × (covers kept m ≡ false) × All (λ u. covers kept u ≡ false → m ≤ u) clauses

-- whether a clause stands before another in lexicographic order
abbrev pub mask_before : ℕ → ℕ → Bool
mask_before a b = is_before (principals a) (principals b)

-- m is one of the clauses, and contains no other one
pub record IsMinimalOf (clauses : List ℕ) (m : ℕ) : Type 0 where
  pub among : Contains clauses m
  pub only : All (λ u. bit_and u m ≡ u → u ≡ m) clauses

-- m is a minimal clause that contains no kept one
abbrev pub IsNextMinimal : List ℕ → List ℕ → ℕ → Type 0
IsNextMinimal kept clauses m = IsMinimalOf clauses m × (covers kept m ≡ false)

-- the kept ones are at most 64 minimal ones of clauses of 64 bits, in lexicographic order
pub record KeepsMinimal (clauses kept : List ℕ) : Type 0 where
  pub fits : All (λ u. u < 2 ^ 64) clauses
  pub minimal : All (IsMinimalOf clauses) kept
  pub ordered : IsTrue (in_order mask_before kept)
  pub few : length kept ≤ 64
