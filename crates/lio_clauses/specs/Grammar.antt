-- The grammar of formulas, by the tokens of each syntax tree. It says nothing of places or of an order of reading.
use Rattle.std.specs.Prelude.{◌≡◌, ℕ, List, [], ◌∷◌, ◌++◌, map, Ok}
use Rattle.std.specs.List.{flat_map}
use Rattle.lio_clauses.specs.declared.text.token.Token.{Token}
use Rattle.lio_clauses.specs.declared.text.token.Token.TheVariants as token
use Rattle.lio_clauses.specs.Token.{symbols, tokens_of}
use Rattle.lio_clauses.specs.FormulaText.{written, written_two}

-- clause = name | "(" name { "\/" name } ")"
pub data ClauseTree : Type 0 where
  Name : ℕ → ClauseTree
  Names : ℕ → List ℕ → ClauseTree

-- formula = "True" | "False" | clause { "/\" clause }
pub data FormulaTree : Type 0 where
  Truth : FormulaTree
  Falsity : FormulaTree
  Clauses : ClauseTree → List ClauseTree → FormulaTree

-- a name
abbrev pub name_tokens : ℕ → List Token
name_tokens n = token.Principal n ∷ []

-- { sign item }
abbrev pub repetition : {X : Type 0} → Token → (X → List Token) → List X → List Token
repetition sign item = flat_map (λ x. sign ∷ item x)

-- the tokens of a clause, and its principals as they are written
abbrev pub clause_tokens : ClauseTree → List Token
clause_tokens (Name n) = name_tokens n
clause_tokens (Names n ns) = token.Open ∷ name_tokens n ++ repetition token.Or name_tokens ns ++ token.Close ∷ []

abbrev pub clause_value : ClauseTree → List ℕ
clause_value (Name n) = n ∷ []
clause_value (Names n ns) = n ∷ ns

-- the tokens of a formula, and its clauses as they are written: True has none, and False the empty one
abbrev pub formula_tokens : FormulaTree → List Token
formula_tokens Truth = token.Truth ∷ []
formula_tokens Falsity = token.Falsity ∷ []
formula_tokens (Clauses c cs) = clause_tokens c ++ repetition token.And clause_tokens cs

abbrev pub formula_value : FormulaTree → List (List ℕ)
formula_value Truth = []
formula_value Falsity = [] ∷ []
formula_value (Clauses c cs) = map clause_value (c ∷ cs)

-- the tokens are those of a formula with these clauses
pub record Derives (tokens : List Token) (A : List (List ℕ)) : Type 0 where
  pub formula : FormulaTree
  pub written : tokens ≡ formula_tokens formula
  pub means : A ≡ formula_value formula

-- the tokens are those of two formulas with these clauses: formula "%%" formula
pub record DerivesTwo (tokens : List Token) (both : List (List ℕ) × List (List ℕ)) : Type 0 where
  pub first : FormulaTree
  pub second : FormulaTree
  pub written : tokens ≡ formula_tokens first ++ token.Over ∷ formula_tokens second
  pub means : both ≡ (formula_value first, formula_value second)

-- what is read is derived, and what is derived is read
abbrev pub ReadIsDerived : Type 0
ReadIsDerived = (names : List (List ℕ)) (text : List ℕ) (A : List (List ℕ)) → written names text ≡ Ok A → Derives (symbols (tokens_of names text)) A

abbrev pub DerivedIsRead : Type 0
DerivedIsRead = (names : List (List ℕ)) (text : List ℕ) (A : List (List ℕ)) → Derives (symbols (tokens_of names text)) A → written names text ≡ Ok A

-- the same of two formulas
abbrev pub ReadTwoAreDerived : Type 0
ReadTwoAreDerived = (names : List (List ℕ)) (text : List ℕ) (both : List (List ℕ) × List (List ℕ)) → written_two names text ≡ Ok both → DerivesTwo (symbols (tokens_of names text)) both

abbrev pub DerivedTwoAreRead : Type 0
DerivedTwoAreRead = (names : List (List ℕ)) (text : List ℕ) (both : List (List ℕ) × List (List ℕ)) → DerivesTwo (symbols (tokens_of names text)) both → written_two names text ≡ Ok both
