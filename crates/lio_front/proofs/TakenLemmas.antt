-- The search for the first name that is taken.
use Rattle.std.proofs.Common.{◌≡◌, ℕ, ◌<◌, ◌+◌, suc, Bool, true, false, ◌||◌, if◌then◌else◌, List, [], ◌∷◌, ◌++◌, length, get_or, take, drop, Option, Some, drop-cons, add-one, refl, sym, ◌∙◌, ap}
use Rattle.std.proofs.Math.Seq.{take-suc}
use Rattle.lio_outside.specs.Taken.{first_taken, is_among}

-- a search that has come to a name
first_taken-at : (read : List ℕ → Bool) (before names : List (List ℕ)) (i : ℕ) (name : List ℕ) → i < length names → name ≡ get_or names i name
    → first_taken read before (drop i names) ≡ first_taken read before (name ∷ drop (i + 1) names)
first_taken-at read before names i name below is =
    ap (λ (ns : List (List ℕ)). first_taken read before ns) (drop-cons names i name below ∙ ap (λ (n : List ℕ). n ∷ drop (suc i) names) (sym is) ∙ ap (λ (n : ℕ). name ∷ drop n names) (sym (add-one i)))

-- what stands before the next name
take-next : (names : List (List ℕ)) (i : ℕ) (name : List ℕ) → i < length names → name ≡ get_or names i name → take i names ++ name ∷ [] ≡ take (i + 1) names
take-next names i name below is =
    ap (λ (n : List ℕ). take i names ++ n ∷ []) is ∙ sym (take-suc names i name below) ∙ ap (λ (n : ℕ). take n names) (sym (add-one i))

chosen : (b : Bool) (yes_ no_ : Option (List ℕ)) → b ≡ true → (if b then yes_ else no_) ≡ yes_
chosen b yes_ no_ is = rw is refl

passed : (b : Bool) (yes_ no_ : Option (List ℕ)) → b ≡ false → (if b then yes_ else no_) ≡ no_
passed b yes_ no_ is = rw is refl

-- a name that isn't taken is passed
pub first_taken-pass : (read : List ℕ → Bool) (names : List (List ℕ)) (i : ℕ) (name : List ℕ) → i < length names → name ≡ get_or names i name → (read name || is_among (take i names) name) ≡ false
    → first_taken read (take i names) (drop i names) ≡ first_taken read (take (i + 1) names) (drop (i + 1) names)
first_taken-pass read names i name below is free =
    first_taken-at read (take i names) names i name below is
    ∙ passed (read name || is_among (take i names) name) (Some name) (first_taken read (take i names ++ name ∷ []) (drop (i + 1) names)) free
    ∙ ap (λ (before : List (List ℕ)). first_taken read before (drop (i + 1) names)) (take-next names i name below is)

-- a name that is taken is found
pub first_taken-find : (read : List ℕ → Bool) (names : List (List ℕ)) (i : ℕ) (name : List ℕ) → i < length names → name ≡ get_or names i name → (read name || is_among (take i names) name) ≡ true
    → first_taken read (take i names) (drop i names) ≡ Some name
first_taken-find read names i name below is taken =
    first_taken-at read (take i names) names i name below is
    ∙ chosen (read name || is_among (take i names) name) (Some name) (first_taken read (take i names ++ name ∷ []) (drop (i + 1) names)) taken
