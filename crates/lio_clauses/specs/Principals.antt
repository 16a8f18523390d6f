-- The principals of a clause that is kept as 64 bits. A principal is a number below 64.
use Rattle.std.specs.Prelude.{ℕ, zero, suc, List, [], ◌∷◌, ◌++◌, ◌==◌}
use Rattle.std.specs.Int.{bit_at}
use Rattle.std.specs.List.{filter}

-- the numbers below n, in rising order
unfoldable pub numbers_below : ℕ → List ℕ
numbers_below zero = []
numbers_below (suc n) = numbers_below n ++ n ∷ []

-- the principals of a clause of 64 bits, in rising order: principal n is in it where bit n is set
unfoldable pub principals : ℕ → List ℕ
principals mask = filter (λ n. bit_at mask n == 1) (numbers_below 64)
