-- Where the bytes of a text lie.
use Rattle.std.specs.Prelude.{ℕ, ◌<◌, ◌≤◌, List, length, take}
use Rattle.lio_values.specs.declared.text.Kept.{Kept}
use Rattle.lio_values.specs.declared.text.Kept.TheVariants.{Here, Shared}

abbrev pub bytes_of : Kept → List ℕ
bytes_of (Here count bytes) = take count bytes
bytes_of (Shared shared) = shared.value.items

-- at most 24 bytes lie in place, and more are shared
abbrev pub IsKept : Kept → Type 0
IsKept (Here count bytes) = count ≤ 24
IsKept (Shared shared) = 24 < length shared.value.items
