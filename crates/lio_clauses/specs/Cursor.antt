-- What a cursor has left of a text, and the clauses that were read from it.
use Rattle.std.specs.Prelude.{◌≡◌, ℕ, ◌^◌, List, [], ◌∷◌, map, IsTrue, Option, Some, None, Result, Ok, Err, bit_or}
use Rattle.lio_clauses.specs.FormulaText.{Reading, written, written_two}
use Rattle.lio_clauses.specs.Token.{Tokens, At, End, tokens}
use Rattle.lio_clauses.specs.declared.text.token.Token.{Token}
use Rattle.lio_clauses.specs.declared.faults.TextFault.{TextFault}
use Rattle.lio_clauses.specs.declared.text.cursor.TokenCursor.{TokenCursor}
use Rattle.lio_clauses.specs.declared.text.clauses.Clauses.{Clauses}

-- a token at a place, if there is one, and the tokens after it
abbrev pub begun : Option Token → ℕ → Tokens → Tokens
begun (Some token) place rest = At place token rest
begun None place rest = End place

-- the tokens from the cursor's place on
abbrev pub left : TokenCursor → Tokens
left cursor = begun cursor.next cursor.place (tokens cursor.names.now cursor.past 0 cursor.rest.now)

-- what was read from a cursor, as a production gives it: a value, and the tokens after it
abbrev pub seen : {X : Type 0} → Result (X × TokenCursor) TextFault → Reading X
seen (Ok r) = Ok (record { value = r.0; rest = left r.1 })
seen (Err fault) = Err fault

-- a production, with another value made of its value
abbrev pub with_value : {A B : Type 0} → (A → B) → Reading A → Reading B
with_value f (Ok r) = Ok (record { value = f r.value; rest = r.rest })
with_value f (Err fault) = Err fault

-- a clause as 64 bits: bit n is set where it has principal n
abbrev pub mask_of : List ℕ → ℕ
mask_of [] = 0
mask_of (n ∷ c) = bit_or (2 ^ n) (mask_of c)

-- the masks are those of these clauses, unless memory for one of them was refused
abbrev pub AreMasksOf : Clauses → List (List ℕ) → Type 0
AreMasksOf clauses A = IsTrue clauses.complete → clauses.masks.items ≡ map mask_of A

-- a production gave clauses with these masks, and the tokens after them
pub record Gives (r : Reading (List (List ℕ))) (clauses : Clauses) (rest : Tokens) : Type 0 where
  pub value : List (List ℕ)
  pub read : r ≡ Ok (record { value = value; rest = rest })
  pub masks : AreMasksOf clauses value

-- a formula's text has clauses with these masks
pub record HasMasks (names : List (List ℕ)) (text : List ℕ) (clauses : Clauses) : Type 0 where
  pub value : List (List ℕ)
  pub read : written names text ≡ Ok value
  pub masks : AreMasksOf clauses value

-- the text of two formulas has clauses with these masks
pub record HaveMasks (names : List (List ℕ)) (text : List ℕ) (first second : Clauses) : Type 0 where
  pub value : List (List ℕ)
  pub other : List (List ℕ)
  pub read : written_two names text ≡ Ok (value, other)
  pub masks : AreMasksOf first value
  pub others : AreMasksOf second other
