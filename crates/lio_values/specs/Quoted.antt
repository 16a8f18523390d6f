-- The text of a list of bytes in quotes, as scripts and journals have it.
use Rattle.std.specs.Prelude.{ℕ, ◌+◌, ◌/◌, ◌%◌, ◌==◌, ◌&&◌, nat_lt, nat_le, List, [], ◌∷◌, ◌++◌, codes, if◌then◌else◌}
use Rattle.std.specs.List.{flat_map}

-- a hexadecimal digit, in lower case
abbrev pub hex_digit : ℕ → ℕ
hex_digit n = if nat_lt n 10 then n + 48 else n + 87

-- a byte in quotes: `"`, `\` and the line end by a sign of their own, other bytes outside 0x20 to 0x7E by their two hexadecimal digits
unfoldable pub escaped : ℕ → List ℕ
escaped byte =
    if byte == 34 then codes "\\\""
    else (if byte == 92 then codes "\\\\"
    else (if byte == 10 then codes "\\n"
    else (if nat_le 32 byte && nat_le byte 126 then byte ∷ []
    else codes "\\x" ++ hex_digit (byte / 16) ∷ hex_digit (byte % 16) ∷ [])))

-- the bytes in quotes
abbrev pub quoted : List ℕ → List ℕ
quoted bytes = codes "\"" ++ flat_map escaped bytes ++ codes "\""
