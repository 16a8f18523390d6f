-- How words, labels and texts are cut off.
use Rattle.std.specs.Prelude.{ℕ, suc, ◌==◌, ◌&&◌, not, Bool, if◌then◌else◌, List, [], ◌∷◌, ◌++◌, codes, IsTrue}
use Rattle.std.specs.List.{list_all}
use Rattle.lio_syntax_lines.specs.Literals.{is_byte}
use Rattle.lio_events_reading.specs.Reading.{is_word_byte}

-- each byte may stand in a word
abbrev pub IsWord : List ℕ → Type 0
IsWord word = IsTrue (list_all is_word_byte word)

-- a byte that ends no label
abbrev pub is_inside : ℕ → Bool
is_inside byte = not (byte == 62)

-- no byte ends a label
abbrev pub IsInside : List ℕ → Type 0
IsInside text = IsTrue (list_all is_inside text)

-- bytes between `<` and `>`
abbrev pub bracketed : List ℕ → List ℕ
bracketed text = codes "<" ++ text ++ codes ">"

-- each item is a byte
abbrev pub AreBytes : List ℕ → Type 0
AreBytes text = IsTrue (list_all is_byte text)

-- how many bytes there are up to the quote that ends a text, where the first byte stands behind a backslash or doesn't
unfoldable pub quoted_len : Bool → List ℕ → ℕ
quoted_len escaped [] = 0
quoted_len escaped (byte ∷ bytes) = if byte == 34 && not escaped then 1 else suc (quoted_len (byte == 92 && not escaped) bytes)
