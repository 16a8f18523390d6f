-- The canonical form of a formula, and the canonical conjunction and disjunction of two.
use Rattle.std.specs.Prelude.{◌≡◌, ℕ, Bool, true, false, List, [], ◌∷◌, ◌++◌, ◌&&◌, ◌||◌, ◌↔◌, not, map, IsTrue, if◌then◌else◌, nat_lt}
use Rattle.std.specs.List.{list_any, list_all, filter, Contains}
use Rattle.lio_clauses.specs.Satisfaction.{sat, set_of}
use Rattle.lio_clauses.specs.Implication.{Implies, named, sublists}

-- whether each element stands before all later ones
abbrev pub in_order : {X : Type 0} → (X → X → Bool) → List X → Bool
in_order before [] = true
in_order before (x ∷ xs) = list_all (before x) xs && in_order before xs

-- whether a list of principals stands before another in lexicographic order
abbrev pub is_before : List ℕ → List ℕ → Bool
is_before [] [] = false
is_before [] (n ∷ d) = true
is_before (m ∷ c) [] = false
is_before (m ∷ c) (n ∷ d) = if nat_lt m n then true else (if nat_lt n m then false else is_before c d)

-- whether a list is a clause: principals, numbers below 64, in rising order
abbrev pub is_clause : List ℕ → Bool
is_clause c = list_all (λ n. nat_lt n 64) c && in_order nat_lt c

-- c is a proper subset of d
pub record IsProperSubset (c d : List ℕ) : Type 0 where
  pub inside : (n : ℕ) → IsTrue (set_of c n) → IsTrue (set_of d n)
  pub misses : (n : ℕ) × IsTrue (set_of d n) × (set_of c n ≡ false)

-- a formula implies a clause, and none of the clause's proper subsets
pub record IsMinimalImplied (A : List (List ℕ)) (c : List ℕ) : Type 0 where
  pub implied : Implies A (c ∷ [])
  pub minimal : (d : List ℕ) → IsProperSubset d c → ¬ Implies A (d ∷ [])

-- the canonical form: clauses in lexicographic order, just those that the formula implies while it implies none of their proper subsets
pub record IsCanonical (A : List (List ℕ)) : Type 0 where
  pub clauses : IsTrue (list_all is_clause A)
  pub ordered : IsTrue (in_order is_before A)
  pub exact : (c : List ℕ) → IsTrue (is_clause c) → Contains A c ↔ IsMinimalImplied A c

-- the lists that leave out some elements of a list
abbrev pub proper_sublists : List ℕ → List (List ℕ)
proper_sublists [] = []
proper_sublists (x ∷ xs) = map (λ ys. x ∷ ys) (proper_sublists xs) ++ sublists xs

-- whether each set of these principals that passes a test has a member in the clause
abbrev pub is_met : List ℕ → ((ℕ → Bool) → Bool) → List ℕ → Bool
is_met names passes c = list_all (λ s. not (passes (set_of s)) || list_any (set_of s) c) (sublists names)

-- the canonical formula that the sets satisfy which pass a test on sets of these principals:
-- of the clauses that all of them meet the minimal ones, in lexicographic order
unfoldable pub canonical_of : List ℕ → ((ℕ → Bool) → Bool) → List (List ℕ)
canonical_of names passes =
    filter (λ c. is_met names passes c && list_all (λ d. not (is_met names passes d)) (proper_sublists c)) (sublists names)

-- the canonical form of a formula
unfoldable pub canonical : List (List ℕ) → List (List ℕ)
canonical A = canonical_of (named A) (λ who. sat who A)

-- the canonical formula that the sets satisfy which satisfy both
unfoldable pub and : List (List ℕ) → List (List ℕ) → List (List ℕ)
and A B = canonical_of (named (A ++ B)) (λ who. sat who A && sat who B)

-- the canonical formula that the sets satisfy which satisfy at least one
unfoldable pub or : List (List ℕ) → List (List ℕ) → List (List ℕ)
or A B = canonical_of (named (A ++ B)) (λ who. sat who A || sat who B)
