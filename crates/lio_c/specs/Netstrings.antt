-- Netstrings: items as bytes, each with its length before it.
use Rattle.std.specs.Prelude.{◌≡◌, ◌≢◌, ℕ, ◌==◌, Bool, not, List, [], ◌∷◌, ◌++◌, length, codes, decimal}

-- an item with its length before it and an end behind it, as `5:hello,`
abbrev pub netstring : List ℕ → List ℕ
netstring item = decimal (length item) ++ (codes ":" ++ (item ++ codes ","))

-- items, one after another
abbrev pub netstrings : List (List ℕ) → List ℕ
netstrings [] = []
netstrings (item ∷ items) = netstring item ++ netstrings items

-- a byte that doesn't end the length
abbrev pub is_before_colon : ℕ → Bool
is_before_colon byte = not (byte == 58)

-- no netstring stands at the front of bytes
abbrev pub NoneBegins : List ℕ → Type 0
NoneBegins bytes = (item rest : List ℕ) → bytes ≢ netstring item ++ rest

-- Bytes are netstrings up to a place. They don't end there, and no netstring stands behind it.
pub record BreaksAt (bytes : List ℕ) (place : ℕ) : Type 0 where
  pub items : List (List ℕ)
  pub rest : List ℕ
  pub bytes_are : bytes ≡ netstrings items ++ rest
  pub place_is : place ≡ length (netstrings items)
  pub goes_on : rest ≢ []
  pub none : NoneBegins rest
