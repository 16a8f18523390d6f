-- What a list becomes of which two places were lent.
use Rattle.std.specs.Prelude.{ℕ, List, slice_set}
use Rattle.std.specs.Borrow.{Array, Fml, LendsBoth, MutBor, RattleType}

-- the list ends with what was left in the two places
abbrev pub LendsPlaces : (T : RattleType) → MutBor (List T.Denot) → ℕ → ℕ → MutBor T.Denot × MutBor T.Denot → Fml
LendsPlaces T xs i j places = LendsBoth (Array T 0) T T xs places (λ x y. slice_set (slice_set xs.now i x) j y)
