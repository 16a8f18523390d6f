-- What a worker looks at, and what it puts back.
use Rattle.std.specs.Prelude.{◌≡◌, ◌⊎◌, ℕ, List, [], ◌∷◌, ◌++◌}

-- A number is the last one of a list.
pub record IsLastOf (k : ℕ) (numbers : List ℕ) : Type 0 where
  pub earlier : List ℕ
  pub is : numbers ≡ earlier ++ k ∷ []

-- A list stays as it is, or this number comes behind it.
abbrev pub MayCome : ℕ → List ℕ → List ℕ → Type 0
MayCome k before now = (now ≡ before) ⊎ (now ≡ before ++ k ∷ [])
