-- Bits in words of 64.
use Rattle.std.specs.Prelude.{◌≡◌, ℕ, ◌/◌, ◌%◌, ◌<◌, List, length, slice_index_or}
use Rattle.std.specs.Int.{bit_at}

-- a bit of these words is there, and isn't set
abbrev pub IsClear : List ℕ → ℕ → Type 0
IsClear words bit = (bit / 64 < length words) × (bit_at (slice_index_or words (bit / 64) 0) (bit % 64) ≡ 0)

-- where a bit of the tops isn't set, the word for which it stands is 0
abbrev pub TopsCover : List ℕ → List ℕ → Type 0
TopsCover words tops = (word : ℕ) → IsClear tops word → (word < length words) × (slice_index_or words word 0 ≡ 0)
