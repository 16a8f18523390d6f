-- The names of principals. A principal's number is the place of its name in the list.
use Rattle.std.specs.Prelude.{◌≡◌, ℕ, ◌+◌, ◌≤◌, Bool, ◌&&◌, ◌||◌, ◌==◌, nat_lt, nat_le, if◌then◌else◌, List, [], ◌∷◌, length, position, Option, Some, None}
use Rattle.std.specs.Str.{bytes_eq}
use Rattle.std.specs.Global.{Global}
use Rattle.std.specs.Prelude.{◌≢◌, Vec, map, AllPairs, All}

-- `a` to `z`
abbrev pub is_letter : ℕ → Bool
is_letter b = nat_le 97 b && nat_le b 122

-- `a` to `z`, `0` to `9` and `_`
abbrev pub is_name_byte : ℕ → Bool
is_name_byte b = is_letter b || (nat_le 48 b && nat_le b 57) || b == 95

-- whether a name may have the byte b at this place: it has at most 32 bytes, and begins with a letter
abbrev pub may_stand : ℕ → ℕ → Bool
may_stand place b = nat_lt place 32 && (if place == 0 then is_letter b else is_name_byte b)

-- the first place, counted from the given one, whose byte may not stand there
abbrev pub bad_place : ℕ → List ℕ → Option ℕ
bad_place place [] = None
bad_place place (b ∷ bs) = if may_stand place b then bad_place (place + 1) bs else Some place

-- where the bytes break the rule for names, which have at least one byte
abbrev pub name_fault : List ℕ → Option ℕ
name_fault [] = Some 0
name_fault (b ∷ bs) = bad_place 0 (b ∷ bs)

-- The names of at most 64 principals, which are distinct.
pub record AreNames (names : List (List ℕ)) : Type 0 where
  pub each : All (λ name. name_fault name ≡ None) names
  pub distinct : AllPairs (λ name other. name ≢ other) names
  pub count : length names ≤ 64

-- the number of the principal with this name
abbrev pub number_of : List (List ℕ) → List ℕ → Option ℕ
number_of names name = position (bytes_eq name) names

-- the names as lists of bytes
abbrev pub bytes_of : List (Vec ℕ Global) → List (List ℕ)
bytes_of names = map (λ name. name.items) names
