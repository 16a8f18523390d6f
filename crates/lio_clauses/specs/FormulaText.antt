-- Reading the text of a formula, from its first token to its last: what it says, and where its fault is. `Grammar` says which texts are read.
-- A production gives its value and the tokens after it, or the fault of the first token that may not stand where it does.
use Rattle.std.specs.Prelude.{ℕ, zero, suc, List, [], ◌∷◌, length, min, nat_lt, if◌then◌else◌, Option, Some, None, Result, Ok, Err}
use Rattle.lio_clauses.specs.Canonical.{canonical}
use Rattle.lio_clauses.specs.Token.{Tokens, At, End, place_of, count_of, after, tokens_of}
use Rattle.lio_clauses.specs.declared.text.token.Token.{Token}
use Rattle.lio_clauses.specs.declared.text.token.Token.TheVariants.{Truth, Falsity, Open, Close, And, Or, Over, Principal, Stranger}
use Rattle.lio_clauses.specs.declared.faults.TextFault.{TextFault}
use Rattle.lio_clauses.specs.declared.faults.TextFault.TheVariants.{BadText, Unknown, Wide}

-- a value, and the tokens after those that it was read from
pub record Read (A : Type 0) : Type 0 where
  pub value : A
  pub rest : Tokens

-- what a production makes of tokens
abbrev pub Reading : Type 0 → Type 0
Reading A = Result (Read A) TextFault

-- one production after another
infixl 10 ◌>>=◌
abbrev pub ◌>>=◌ : {A B : Type 0} → Result A TextFault → (A → Result B TextFault) → Result B TextFault
(Ok x) >>= next = next x
(Err fault) >>= next = Err fault

-- one reading of what follows a token, where that is next, and else another
abbrev pub if_next : {R : Type 0} → Option Tokens → (Tokens → R) → R → R
if_next (Some rest) reading other = reading rest
if_next None reading other = other

-- a place in a fault, at most 2 ^ 32 - 1
abbrev pub shown : ℕ → ℕ
shown place = min place 4294967295

-- the next token may not stand here
abbrev pub misplaced : {A : Type 0} → Tokens → Result A TextFault
misplaced ts = Err (BadText (shown (place_of ts)))

-- the tokens after the given one, which has to be next
abbrev pub expected : Token → Tokens → Result Tokens TextFault
expected token ts = if_next (after token ts) (λ rest. Ok rest) (misplaced ts)

-- nothing may be left
abbrev pub ended : Tokens → Result Tokens TextFault
ended (End place) = Ok (End place)
ended (At place token rest) = misplaced (At place token rest)

-- a name that the principals have
abbrev pub name_at : Tokens → Reading ℕ
name_at (At place (Principal n) rest) = Ok (record { value = n; rest = rest })
name_at (At place Stranger rest) = Err (Unknown (shown place))
name_at ts = misplaced ts

-- { sign item }, at most as often as the given number says
unfoldable pub repeated : {A : Type 0} → ℕ → Token → (Tokens → Reading A) → Tokens → Reading (List A)
repeated zero sign item ts = Ok (record { value = []; rest = ts })
repeated (suc most) sign item ts =
    if_next (after sign ts) (λ more. item more >>= λ x. repeated most sign item x.rest >>= λ xs. Ok (record { value = x.value ∷ xs.value; rest = xs.rest }))
    (Ok (record { value = []; rest = ts }))

-- item { sign item }
abbrev pub listed : {A : Type 0} → Token → (Tokens → Reading A) → Tokens → Reading (List A)
listed sign item ts = do
  x ← item ts
  xs ← repeated (count_of x.rest) sign item x.rest
  Ok (record { value = x.value ∷ xs.value; rest = xs.rest })

-- "(" name { "\/" name } ")", behind the parenthesis
abbrev pub names_at : Tokens → Reading (List ℕ)
names_at ts = do
  ns ← listed Or name_at ts
  rest ← expected Close ns.rest
  Ok (record { value = ns.value; rest = rest })

-- a clause of one name
abbrev pub one_at : Tokens → Reading (List ℕ)
one_at ts = do
  n ← name_at ts
  Ok (record { value = n.value ∷ []; rest = n.rest })

-- name | "(" name { "\/" name } ")"
unfoldable pub clause_at : Tokens → Reading (List ℕ)
clause_at ts = if_next (after Open ts) names_at (one_at ts)

-- "True" | "False" | clause { "/\" clause }, with the clauses as they are written
unfoldable pub formula_at : Tokens → Reading (List (List ℕ))
formula_at ts =
    if_next (after Truth ts) (λ rest. Ok (record { value = []; rest = rest }))
    (if_next (after Falsity ts) (λ rest. Ok (record { value = [] ∷ []; rest = rest })) (listed And clause_at ts))

-- formula "%%" formula
unfoldable pub two_at : Tokens → Reading (List (List ℕ) × List (List ℕ))
two_at ts = do
  first ← formula_at ts
  over ← expected Over first.rest
  second ← formula_at over
  Ok (record { value = (first.value, second.value); rest = second.rest })

-- the value of all tokens
abbrev pub whole : {A : Type 0} → Read A → Result A TextFault
whole r = ended r.rest >>= λ end. Ok r.value

-- the clauses of a formula's text over the names of principals, as they are written, or its fault
unfoldable pub written : List (List ℕ) → List ℕ → Result (List (List ℕ)) TextFault
written names text = formula_at (tokens_of names text) >>= whole

-- those of the text of two formulas with "%%" between them
unfoldable pub written_two : List (List ℕ) → List ℕ → Result (List (List ℕ) × List (List ℕ)) TextFault
written_two names text = two_at (tokens_of names text) >>= whole

-- the canonical form of clauses, which may not be wide
abbrev pub narrow : List (List ℕ) → Result (List (List ℕ)) TextFault
narrow A = if nat_lt 64 (length (canonical A)) then Err Wide else Ok (canonical A)

-- the canonical form of a formula's text over the names of principals, or its fault
unfoldable pub reading : List (List ℕ) → List ℕ → Result (List (List ℕ)) TextFault
reading names text = written names text >>= narrow

-- those of the text of two formulas with "%%" between them
unfoldable pub reading_two : List (List ℕ) → List ℕ → Result (List (List ℕ) × List (List ℕ)) TextFault
reading_two names text = do
  both ← written_two names text
  A ← narrow both.0
  B ← narrow both.1
  Ok (A, B)
