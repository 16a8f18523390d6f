-- Numbers in lines.
use Rattle.std.specs.Prelude.{ℕ, ◌<◌, ◌^◌, List, ◌++◌, codes, decimal}
use Rattle.lio_values.specs.ValueText.{numbers_text}

-- a number behind a blank
abbrev pub blank_decimal : ℕ → List ℕ
blank_decimal number = codes " " ++ decimal number

-- two numbers of 64 bits, each behind a blank
abbrev pub both_text : ℕ × ℕ → List ℕ
both_text both = numbers_text both.0 both.1

abbrev pub AreLong : ℕ × ℕ → Type 0
AreLong both = (both.0 < 2 ^ 64) × (both.1 < 2 ^ 64)
