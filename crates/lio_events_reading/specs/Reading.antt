-- What it is to find what is printed.
use Rattle.std.specs.Prelude.{◌≡◌, ℕ, ◌==◌, Bool, ◌||◌, not, List, [], ◌∷◌, ◌++◌, IsTrue}
use Rattle.lio_clauses.specs.Names.{is_name_byte}

-- the bytes of words and numbers: `a` to `z`, `0` to `9`, `_` and `-`
abbrev pub is_word_byte : ℕ → Bool
is_word_byte byte = is_name_byte byte || byte == 45

-- a word may end before these bytes
abbrev pub Ends : List ℕ → Type 0
Ends [] = Unit {0}
Ends (byte ∷ bytes) = IsTrue (not (is_word_byte byte))

-- What was found at the front of bytes, and what is left of them, are right: wherever the bytes are the text of a value of this kind, and behind it
-- others before which a word may end, that value was found and those are left.
abbrev pub Finds : {A : Type 0} → (A → List ℕ) → (A → Type 0) → List ℕ → A → List ℕ → Type 0
Finds {A} text over bytes found left = (value : A) (rest : List ℕ) → over value → Ends rest → bytes ≡ text value ++ rest → (found ≡ value) × (left ≡ rest)

-- the same where a sign stands behind the text
abbrev pub FindsBefore : {A : Type 0} → List ℕ → (A → List ℕ) → (A → Type 0) → List ℕ → A → List ℕ → Type 0
FindsBefore {A} sign text over bytes found left = (value : A) (rest : List ℕ) → over value → bytes ≡ text value ++ (sign ++ rest) → (found ≡ value) × (left ≡ sign ++ rest)
