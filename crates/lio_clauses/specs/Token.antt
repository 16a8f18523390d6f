-- The tokens of the text of a formula or a label, each with the place of its first byte.
use Rattle.std.specs.Prelude.{ℕ, zero, suc, ◌-◌, ◌==◌, Bool, true, false, nat_eq, if◌then◌else◌, List, [], ◌∷◌, take, codes, Option, Some, None}
use Rattle.std.specs.List.{prefix_len, starts_with}
use Rattle.lio_clauses.specs.Names.{is_letter, is_name_byte, number_of}
use Rattle.lio_clauses.specs.declared.text.token.Token.{Token}
use Rattle.lio_clauses.specs.declared.text.token.Token.TheVariants.{Truth, Falsity, Open, Close, And, Or, Over, Principal, Stranger, Stray}

-- the tokens of a text: one at a place, before the others, or the end, whose place is the text's length
pub data Tokens : Type 0 where
  At : ℕ → Token → Tokens → Tokens
  End : ℕ → Tokens

-- where the next token begins
abbrev pub place_of : Tokens → ℕ
place_of (At place token rest) = place
place_of (End place) = place

-- how many tokens there are
abbrev pub count_of : Tokens → ℕ
count_of (At place token rest) = suc (count_of rest)
count_of (End place) = 0

-- the tokens without their places
abbrev pub symbols : Tokens → List Token
symbols (At place token rest) = token ∷ symbols rest
symbols (End place) = []

-- whether two tokens are equal
abbrev pub same_token : Token → Token → Bool
same_token Truth Truth = true
same_token Falsity Falsity = true
same_token Open Open = true
same_token Close Close = true
same_token And And = true
same_token Or Or = true
same_token Over Over = true
same_token (Principal m) (Principal n) = m == n
same_token Stranger Stranger = true
same_token Stray Stray = true
same_token token other = false

-- the tokens after the given one, where it is next
abbrev pub after : Token → Tokens → Option Tokens
after token (At place next rest) = if same_token token next then Some rest else None
after token (End place) = None

-- a name is the number of its principal, or a stranger's where no principal has it
abbrev pub name_token : Option ℕ → Token
name_token (Some number) = Principal number
name_token None = Stranger

-- a token, and how many bytes it has
pub record Lexeme : Type 0 where
  pub token : Token
  pub size : ℕ

-- a name is the longest run of bytes for names that begin with a letter; other bytes begin no token
abbrev pub name_at_front : List (List ℕ) → List ℕ → Lexeme
name_at_front names [] = record { token = Stray; size = 1 }
name_at_front names (b ∷ bs) =
    let size = prefix_len is_name_byte (b ∷ bs) in
    if is_letter b then record { token = name_token (number_of names (take size (b ∷ bs))); size = size } else record { token = Stray; size = 1 }

-- the token at the front of bytes, over the names of the principals
unfoldable pub front : List (List ℕ) → List ℕ → Lexeme
front names bytes =
    if starts_with nat_eq bytes (codes "True") then record { token = Truth; size = 4 }
    else (if starts_with nat_eq bytes (codes "False") then record { token = Falsity; size = 5 }
    else (if starts_with nat_eq bytes (codes "(") then record { token = Open; size = 1 }
    else (if starts_with nat_eq bytes (codes ")") then record { token = Close; size = 1 }
    else (if starts_with nat_eq bytes (codes "/\\") then record { token = And; size = 2 }
    else (if starts_with nat_eq bytes (codes "\\/") then record { token = Or; size = 2 }
    else (if starts_with nat_eq bytes (codes "%%") then record { token = Over; size = 2 }
    else name_at_front names bytes))))))

-- The tokens of bytes from a place on, whose first bytes are inside a token that is before them. Between tokens blanks are skipped.
abbrev pub tokens : List (List ℕ) → ℕ → ℕ → List ℕ → Tokens
tokens names place inside [] = End place
tokens names place (suc inside) (b ∷ bs) = tokens names (suc place) inside bs
tokens names place zero (b ∷ bs) =
    if b == 32 then tokens names (suc place) zero bs
    else At place (front names (b ∷ bs)).token (tokens names (suc place) ((front names (b ∷ bs)).size - 1) bs)

-- the tokens of a text
abbrev pub tokens_of : List (List ℕ) → List ℕ → Tokens
tokens_of names text = tokens names 0 0 text
