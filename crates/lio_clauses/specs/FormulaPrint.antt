-- The canonical text of a formula.
use Rattle.std.specs.Prelude.{◌≡◌, ℕ, ◌<◌, List, [], ◌∷◌, ◌++◌, map, length, All, codes, slice_index_or}

-- each principal of a formula has a name
abbrev pub AreNamed : List (List ℕ) → List (List ℕ) → Type 0
AreNamed names A = All (λ clause. All (λ n. n < length names) clause) A

-- texts one after another, with a sign between two
abbrev pub joined : List ℕ → List (List ℕ) → List ℕ
joined sign [] = []
joined sign (t ∷ []) = t
joined sign (t ∷ u ∷ ts) = t ++ sign ++ joined sign (u ∷ ts)

-- the name of a principal
abbrev pub name_of : List (List ℕ) → ℕ → List ℕ
name_of names n = slice_index_or names n []

-- one principal is its name, and several stand in parentheses
abbrev pub clause_text : List (List ℕ) → List ℕ → List ℕ
clause_text names (n ∷ []) = name_of names n
clause_text names c = codes "(" ++ joined (codes " \\/ ") (map (name_of names) c) ++ codes ")"

-- the text of a formula
abbrev pub formula_text : List (List ℕ) → List (List ℕ) → List ℕ
formula_text names [] = codes "True"
formula_text names ([] ∷ []) = codes "False"
formula_text names A = joined (codes " /\\ ") (map (clause_text names) A)

-- the text of two formulas, "%%" with a blank on each side between them
abbrev pub two_text : List (List ℕ) → List (List ℕ) → List (List ℕ) → List ℕ
two_text names A B = formula_text names A ++ codes " %% " ++ formula_text names B

-- bytes stand behind others
pub record Extends (old new : List ℕ) : Type 0 where
  pub more : List ℕ
  pub appended : new ≡ old ++ more
