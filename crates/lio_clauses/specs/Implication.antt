-- When one formula implies another (Disjunction Category Labels, 2011).
use Rattle.std.specs.Prelude.{ℕ, Bool, List, [], ◌∷◌, ◌++◌, ◌==◌, ◌||◌, not, map, IsTrue, if◌then◌else◌, nat_lt}
use Rattle.std.specs.List.{fold, list_all}
use Rattle.lio_clauses.specs.Satisfaction.{sat, set_of}

-- one formula implies another: each set of principals that satisfies the first satisfies the second (Disjunction Category Labels, 2011)
abbrev pub Implies : List (List ℕ) → List (List ℕ) → Type 0
Implies A B = (who : ℕ → Bool) → IsTrue (sat who A) → IsTrue (sat who B)

-- two formulas together imply a third: each set of principals that satisfies both satisfies the third
abbrev pub ImplyTogether : List (List ℕ) → List (List ℕ) → List (List ℕ) → Type 0
ImplyTogether A B C = (who : ℕ → Bool) → IsTrue (sat who A) → IsTrue (sat who B) → IsTrue (sat who C)

-- a rising list of numbers with one more number
abbrev pub with_number : List ℕ → ℕ → List ℕ
with_number [] n = n ∷ []
with_number (m ∷ ms) n = if nat_lt n m then n ∷ m ∷ ms else (if n == m then m ∷ ms else m ∷ with_number ms n)

-- the principals that a formula names, in rising order
abbrev pub named : List (List ℕ) → List ℕ
named [] = []
named (c ∷ A) = fold with_number (named A) c

-- the lists that leave out some elements, all or none, of a list: where it rises, in lexicographic order
abbrev pub sublists_but_empty : List ℕ → List (List ℕ)
sublists_but_empty [] = []
sublists_but_empty (x ∷ xs) = map (λ ys. x ∷ ys) ([] ∷ sublists_but_empty xs) ++ sublists_but_empty xs

abbrev pub sublists : List ℕ → List (List ℕ)
sublists xs = [] ∷ sublists_but_empty xs

-- the same as a test, which walks the sets of the principals that either formula names
unfoldable pub implies : List (List ℕ) → List (List ℕ) → Bool
implies A B = list_all (λ s. not (sat (set_of s) A) || sat (set_of s) B) (sublists (named (A ++ B)))
