-- The words of a line: it is cut at the blanks that stand outside of texts and labels.
use Rattle.std.specs.Prelude.{ℕ, suc, ◌-◌, ◌==◌, ◌||◌, Bool, false, if◌then◌else◌, List, [], ◌∷◌, ◌++◌, length, take, drop, codes, bytes_eq}
use Rattle.std.specs.List.{flat_map, onto_first}
use Rattle.lio_syntax_lines.specs.declared.words.Place.{Place}
use Rattle.lio_syntax_lines.specs.declared.words.Place.TheVariants.{Between, Plain, Quoted, Escaped, Bracketed}

-- space and tab
abbrev pub is_blank : ℕ → Bool
is_blank byte = byte == 32 || byte == 9

-- behind the byte `<` a label begins, unless a blank or `=` follows, as after an operator
abbrev pub behind_bracket : List ℕ → Place
behind_bracket [] = Plain
behind_bracket (byte ∷ bytes) = if is_blank byte || byte == 61 then Plain else Bracketed

-- where one stands behind the first byte of a word, before these bytes
abbrev pub first_place : ℕ → List ℕ → Place
first_place byte bytes = if byte == 34 then Quoted else (if byte == 60 then behind_bracket bytes else Plain)

-- where one stands behind a further byte of a word: a text ends at a quote that no backslash stands before, a label at `>`
abbrev pub after : Place → ℕ → Place
after Between byte = Between
after Plain byte = Plain
after Quoted byte = if byte == 34 then Plain else (if byte == 92 then Escaped else Quoted)
after Escaped byte = Quoted
after Bracketed byte = if byte == 62 then Plain else Bracketed

-- the words of bytes, the first of which stands at this place; a word that has begun may have no further byte
unfoldable pub cut : Place → List ℕ → List (List ℕ)
cut Between [] = []
cut Between (byte ∷ bytes) = if is_blank byte then cut Between bytes else onto_first byte (cut (first_place byte bytes) bytes)
cut Plain [] = [] ∷ []
cut Plain (byte ∷ bytes) = if is_blank byte then [] ∷ cut Between bytes else onto_first byte (cut Plain bytes)
cut Quoted [] = [] ∷ []
cut Quoted (byte ∷ bytes) = onto_first byte (cut (after Quoted byte) bytes)
cut Escaped [] = [] ∷ []
cut Escaped (byte ∷ bytes) = onto_first byte (cut (after Escaped byte) bytes)
cut Bracketed [] = [] ∷ []
cut Bracketed (byte ∷ bytes) = onto_first byte (cut (after Bracketed byte) bytes)

-- the words of a line
abbrev pub words : List ℕ → List (List ℕ)
words line = cut Between line

-- the bytes of a line without the carriage return at its end, which counts as a blank
abbrev pub without_return : List ℕ → List ℕ
without_return line = if bytes_eq (drop (length line - 1) line) (codes "\r") then take (length line - 1) line else line

-- whether a word ends before the byte
abbrev pub ends : Place → ℕ → Bool
ends Plain byte = is_blank byte
ends Between byte = false
ends Quoted byte = false
ends Escaped byte = false
ends Bracketed byte = false

-- how many bytes belong to a word that has begun
unfoldable pub word_len : Place → List ℕ → ℕ
word_len place [] = 0
word_len place (byte ∷ bytes) = if ends place byte then 0 else suc (word_len (after place byte) bytes)

-- a word as it is printed, behind a blank
abbrev pub spaced : List ℕ → List ℕ
spaced word = codes " " ++ word

-- several words
unfoldable pub names_spaced : List (List ℕ) → List ℕ
names_spaced parameters = flat_map spaced parameters
