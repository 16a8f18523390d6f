-- How a line is cut into words.
use Rattle.std.proofs.Common.{◌≡◌, ◌≢◌, ℕ, suc, ◌+◌, ◌-◌, ◌<◌, ◌≤◌, ◌==◌, length, get_or, length-drop, add-one, Bool, true, false, cond, List, [], ◌∷◌, take, drop, refl, ap, sym, arith, ◌∙◌}
use Rattle.std.proofs.lemmas.List.{take_all}
use Rattle.std.specs.List.{onto_first}
use Rattle.lio_syntax_lines.specs.declared.words.Place.{Place}
use Rattle.lio_syntax_lines.specs.declared.words.Place.TheVariants.{Between, Plain, Quoted, Escaped, Bracketed}
use Rattle.lio_syntax_lines.specs.Words.{is_blank, behind_bracket, after, ends, first_place, cut, word_len, words}

-- the rest of a word that has begun is cut behind its last byte
abbrev Cut : Place → List ℕ → Type 0
Cut place bytes = cut place bytes ≡ take (word_len place bytes) bytes ∷ words (drop (word_len place bytes) bytes)

-- where two places are in a word, so is the one that is chosen
chosen : (b : Bool) (one other : Place) → one ≢ Between → other ≢ Between → cond b one other ≢ Between
chosen true one other first second = first
chosen false one other first second = second

in_plain : Plain ≢ Between
in_plain e = cc

in_quoted : Quoted ≢ Between
in_quoted e = cc

in_escaped : Escaped ≢ Between
in_escaped e = cc

in_bracketed : Bracketed ≢ Between
in_bracketed e = cc

after_in_word : (place : Place) (byte : ℕ) → place ≢ Between → after place byte ≢ Between
after_in_word Between byte inside = inside
after_in_word Plain byte inside = inside
after_in_word Quoted byte inside = chosen (byte == 34) Plain _ in_plain (chosen (byte == 92) Escaped Quoted in_escaped in_quoted)
after_in_word Escaped byte inside = in_quoted
after_in_word Bracketed byte inside = chosen (byte == 62) Plain Bracketed in_plain in_bracketed

behind_in_word : (bytes : List ℕ) → behind_bracket bytes ≢ Between
behind_in_word [] = in_plain
behind_in_word (byte ∷ bytes) = chosen _ Plain Bracketed in_plain in_bracketed

first_in_word : (byte : ℕ) (bytes : List ℕ) → first_place byte bytes ≢ Between
first_in_word byte bytes = chosen (byte == 34) Quoted _ in_quoted (chosen (byte == 60) (behind_bracket bytes) Plain (behind_in_word bytes) in_plain)

-- a word with one byte more
longer : (place : Place) (byte : ℕ) (bytes : List ℕ) → ends place byte ≡ false → Cut (after place byte) bytes
    → onto_first byte (cut (after place byte) bytes) ≡ take (word_len place (byte ∷ bytes)) (byte ∷ bytes) ∷ words (drop (word_len place (byte ∷ bytes)) (byte ∷ bytes))
unfolding word_len
longer place byte bytes e rest = rw (e, rest) refl

-- a blank before words
pub words-blank : (byte : ℕ) (bytes : List ℕ) → is_blank byte ≡ true → words (byte ∷ bytes) ≡ words bytes
unfolding cut
words-blank byte bytes e = rw e refl

plain : (byte : ℕ) (bytes : List ℕ) (b : Bool) → is_blank byte ≡ b → Cut Plain bytes → Cut Plain (byte ∷ bytes)
unfolding cut word_len
plain byte bytes true e rest = rw e (ap (λ ws. [] ∷ ws) (sym (words-blank byte bytes e)))
plain byte bytes false e rest = rw (e, rest) refl

cut_step : (place : Place) (byte : ℕ) (bytes : List ℕ) → place ≢ Between → Cut (after place byte) bytes → Cut place (byte ∷ bytes)
unfolding cut
cut_step Between byte bytes inside rest = absurd (inside refl)
cut_step Plain byte bytes inside rest = plain byte bytes (is_blank byte) refl rest
cut_step Quoted byte bytes inside rest = longer Quoted byte bytes refl rest
cut_step Escaped byte bytes inside rest = longer Escaped byte bytes refl rest
cut_step Bracketed byte bytes inside rest = longer Bracketed byte bytes refl rest

cut_none : (place : Place) → place ≢ Between → Cut place []
unfolding cut word_len
cut_none Between inside = absurd (inside refl)
cut_none Plain inside = refl
cut_none Quoted inside = refl
cut_none Escaped inside = refl
cut_none Bracketed inside = refl

pub cut_word : (place : Place) (bytes : List ℕ) → place ≢ Between → Cut place bytes
cut_word place [] inside = cut_none place inside
cut_word place (byte ∷ bytes) inside = cut_step place byte bytes inside (cut_word (after place byte) bytes (after_in_word place byte inside))

-- the first word of bytes that begin with it
pub words-first : (byte : ℕ) (bytes : List ℕ) → is_blank byte ≡ false
    → words (byte ∷ bytes) ≡ (byte ∷ take (word_len (first_place byte bytes) bytes) bytes) ∷ words (drop (word_len (first_place byte bytes) bytes) bytes)
unfolding cut
words-first byte bytes e = rw (e, cut_word (first_place byte bytes) bytes (first_in_word byte bytes)) refl

-- the same of a slice, which is cut behind its first word
pub words-split : (line rest : List ℕ) (len : ℕ) → words rest ≡ words line → 1 ≤ length rest
    → ((byte : ℕ) (bytes : List ℕ) → rest ≡ byte ∷ bytes → is_blank byte ≡ false) → len ≤ length rest - 1
    → len ≡ word_len (first_place (get_or rest 0 0) (take (length rest - 1) (drop 1 rest))) (take (length rest - 1) (drop 1 rest))
    → words line ≡ take (len + 1) rest ∷ words (take (length rest - (len + 1)) (drop (len + 1) rest))
words-split line [] len same some at_word within e = absurd (omega arith)
words-split line (byte ∷ bytes) len same some at_word within e =
    let all : take (suc (length bytes) - 1) bytes ≡ bytes = take_all (suc (length bytes) - 1) bytes (omega arith) in
    let is : len ≡ word_len (first_place byte bytes) bytes = rw all at e in
    let behind : take (suc (length bytes) - suc len) (drop len bytes) ≡ drop len bytes = take_all (suc (length bytes) - suc len) (drop len bytes) (omega (arith, length-drop len bytes)) in
    let front : words (byte ∷ bytes) ≡ (byte ∷ take len bytes) ∷ words (take (suc (length bytes) - suc len) (drop len bytes)) = rw (behind, is) (words-first byte bytes (at_word byte bytes refl)) in
    sym same ∙ (rw add-one front)

-- nothing but blanks
pub words-none : (line rest : List ℕ) → words rest ≡ words line → length rest < 1 → words line ≡ []
unfolding cut
words-none line [] same none = sym same
words-none line (byte ∷ bytes) same none = absurd (omega arith)
