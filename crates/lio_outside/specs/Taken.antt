-- Names of files that are written, and the first that is taken.
use Rattle.std.specs.Prelude.{ℕ, Bool, ◌||◌, List, [], ◌∷◌, ◌++◌, bytes_eq, Option, Some, None, if◌then◌else◌}
use Rattle.std.specs.List.{list_any}

-- whether a name is one of these
abbrev pub is_among : List (List ℕ) → List ℕ → Bool
is_among names name = list_any (λ other. bytes_eq name other) names

-- the first of these names that is read, or that stands before it
abbrev pub first_taken : (List ℕ → Bool) → List (List ℕ) → List (List ℕ) → Option (List ℕ)
first_taken read before [] = None
first_taken read before (name ∷ names) =
    if read name || is_among before name then Some name else first_taken read (before ++ name ∷ []) names
