-- The key by which names are told from one another: equal names have equal keys, and equal keys of at most seven bytes are of equal names.
use Rattle.std.specs.Prelude.{◌<◌, ℕ, ◌+◌, ◌*◌, List, get_or, length, min}

-- the byte at a place, or 0 behind the last one
abbrev pub digit : List ℕ → ℕ → ℕ
digit bytes place = get_or bytes place 0

-- a number, and behind it one digit more to the base 256
abbrev pub with_digit : ℕ → ℕ → ℕ
with_digit number last = number * 256 + last

-- the length, at most 255, and the first seven bytes, as the digits of a number
unfoldable pub key_of : List ℕ → ℕ
key_of bytes =
    with_digit (with_digit (with_digit (with_digit (with_digit (with_digit (with_digit (min (length bytes) 255)
    (digit bytes 0)) (digit bytes 1)) (digit bytes 2)) (digit bytes 3)) (digit bytes 4)) (digit bytes 5)) (digit bytes 6)

-- each item is a byte
abbrev pub AreBytes : List ℕ → Type 0
AreBytes items = (i : ℕ) → get_or items i 0 < 256
