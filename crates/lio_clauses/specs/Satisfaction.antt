-- When a set of principals satisfies a formula. A set is a test on numbers, a clause the list of its principals,
-- and a formula the list of its clauses (Disjunction Category Labels, 2011).
use Rattle.std.specs.Prelude.{ℕ, Bool, List, ◌==◌}
use Rattle.std.specs.List.{list_any, list_all}

-- the set of the principals that a list names
abbrev pub set_of : List ℕ → ℕ → Bool
set_of c n = list_any (λ m. m == n) c

-- whether a set of principals satisfies a formula: each of its clauses has a member in the set (Disjunction Category Labels, 2011)
abbrev pub sat : (ℕ → Bool) → List (List ℕ) → Bool
sat who A = list_all (λ c. list_any who c) A
