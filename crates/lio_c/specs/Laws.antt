-- The law of netstrings.
use Rattle.std.specs.Prelude.{◌≡◌, ℕ, ◌<◌, ◌^◌, List, length}
use Rattle.lio_c.specs.Netstrings.{netstrings}

-- bytes are the netstrings of no two lists of items
abbrev pub AreOfOneList : Type 0
AreOfOneList = (a b : List (List ℕ)) → length (netstrings a) < 2 ^ 64 → netstrings a ≡ netstrings b → a ≡ b
