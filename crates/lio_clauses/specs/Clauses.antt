-- The clauses that a formula keeps, as 64 bits each.
use Rattle.std.specs.Prelude.{ℕ, ◌≤◌, List, [], ◌∷◌, length}
use Rattle.lio_clauses.specs.Bits.{IsFormula}
use Rattle.lio_clauses.specs.declared.formula.Clauses.{Clauses}
use Rattle.lio_clauses.specs.declared.formula.Clauses.TheVariants.{Truth, One, Many}

abbrev pub masks_of : Clauses → List ℕ
masks_of Truth = []
masks_of (One clause) = clause ∷ []
masks_of (Many shared) = shared.value.items

-- one clause alone lies in place
abbrev pub IsSharedByMany : Clauses → Type 0
IsSharedByMany (Many shared) = 2 ≤ length shared.value.items
IsSharedByMany kept = Unit {0}

-- a formula's clauses
pub record KeepsFormula (kept : Clauses) : Type 0 where
  pub formula : IsFormula (masks_of kept)
  pub shared : IsSharedByMany kept
