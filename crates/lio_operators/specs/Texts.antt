-- Operators on two texts, and on a text and a whole.
use Rattle.std.specs.Prelude.{ℕ, suc, not, Bool, nat_le, if◌then◌else◌, List, [], ◌∷◌, ◌++◌, length, take, drop, bytes_eq, Option, Some, None, ℤ, pos, negsuc, Result, Ok, Err}
use Rattle.std.specs.Option.{option_map}
use Rattle.std.specs.Ordering.{nat_cmp, is_lt, is_le}
use Rattle.std.specs.Cmp.Lexicographic.{slice_cmp}
use Rattle.lio_values.specs.declared.value.Plain.{Plain}
use Rattle.lio_values.specs.declared.value.Plain.TheVariants.{Flag, Whole, Bytes}
use Rattle.lio_values.specs.declared.fault.FaultKind.{FaultKind}
use Rattle.lio_values.specs.declared.fault.FaultKind.TheVariants.{BadType, TooLong}
use Rattle.lio_syntax_lines.specs.declared.operators.Two.{Two}
use Rattle.lio_syntax_lines.specs.declared.operators.Two.TheVariants.{Add, Eq, Ne, Lt, Le, From, Upto, Find}

-- a text that is made, where it isn't longer than texts may be
abbrev pub made : ℕ → List ℕ → Result Plain FaultKind
made longest text = if nat_le (length text) longest then Ok (Bytes text) else Err TooLong

-- whether a text begins with another
abbrev pub begins_with : List ℕ → List ℕ → Bool
begins_with part text = bytes_eq (take (length part) text) part

-- the first place at which a text stands in another
unfoldable pub first_place : List ℕ → List ℕ → Option ℕ
first_place part [] = if begins_with part [] then Some 0 else None
first_place part (byte ∷ bytes) = if begins_with part (byte ∷ bytes) then Some 0 else option_map (λ place. suc place) (first_place part bytes)

-- a place, or -1
abbrev pub place_or_less : Option ℕ → ℤ
place_or_less (Some place) = pos place
place_or_less None = negsuc 0

abbrev pub on_texts : ℕ → Two → List ℕ → List ℕ → Result Plain FaultKind
on_texts longest Add a b = made longest (a ++ b)
on_texts longest Eq a b = Ok (Flag (bytes_eq a b))
on_texts longest Ne a b = Ok (Flag (not (bytes_eq a b)))
on_texts longest Lt a b = Ok (Flag (is_lt (slice_cmp nat_cmp a b)))
on_texts longest Le a b = Ok (Flag (is_le (slice_cmp nat_cmp a b)))
on_texts longest Find a b = Ok (Whole (place_or_less (first_place b a)))
on_texts longest two a b = Err BadType

-- the place of a whole: 0 for one below it
abbrev pub place_at : ℤ → ℕ
place_at (pos place) = place
place_at (negsuc number) = 0

-- the bytes from a place on, and those up to it
abbrev pub on_text_at : ℕ → Two → List ℕ → ℤ → Result Plain FaultKind
on_text_at longest From text at = made longest (drop (place_at at) text)
on_text_at longest Upto text at = made longest (take (place_at at) text)
on_text_at longest two text at = Err BadType
