-- A formula without what another one says already.
use Rattle.std.specs.Prelude.{ℕ, List, [], ◌∷◌, not}
use Rattle.std.specs.List.{filter}
use Rattle.lio_clauses.specs.Implication.{implies}

-- the clauses of a formula that a power doesn't imply
unfoldable pub without : List (List ℕ) → List (List ℕ) → List (List ℕ)
without formula power = filter (λ clause. not (implies power (clause ∷ []))) formula
