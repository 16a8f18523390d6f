-- Words that stand in a line as they are, before a blank or its end.
use Rattle.std.proofs.Common.{◌≡◌, ℕ, ◌+◌, ◌<◌, ◌≤◌, ◌==◌, Bool, true, false, not, ◌&&◌, List, [], ◌∷◌, ◌++◌, refl, ap, sym, arith, ◌∙◌, ◌||◌, ◌/◌, ◌%◌, ne_eqb, append_assoc, true≢false, codes}
use Rattle.std.proofs.lemmas.Bool.{and_parts}
use borrow.Author.Tests.{ltb-true, ltb-false}
use Rattle.std.specs.Prelude.{nat_lt, nat_le}
use Rattle.std.specs.List.{onto_first, list_all, flat_map}
use Rattle.lio_values.specs.Quoted.{hex_digit, quoted}
use Rattle.lio_values.specs.Quoted as quoted
use Rattle.lio_syntax_lines.specs.declared.keyword.Keyword.{Keyword}
use Rattle.lio_syntax_lines.specs.declared.keyword.Keyword.TheVariants as keyword
use Rattle.lio_syntax_lines.specs.declared.operators.One.{One}
use Rattle.lio_syntax_lines.specs.declared.operators.One.TheVariants as one
use Rattle.lio_syntax_lines.specs.declared.operators.Two.{Two}
use Rattle.lio_syntax_lines.specs.declared.operators.Two.TheVariants as two
use Rattle.lio_syntax_lines.specs.declared.words.Place.TheVariants.{Plain, Quoted, Bracketed}
use Rattle.lio_syntax_lines.specs.Keyword.{word_of}
use Rattle.lio_syntax_lines.specs.Literals.{is_byte}
use Rattle.lio_syntax_lines.specs.Operators.{one_word, two_word}
use Rattle.lio_syntax_lines.specs.Words.{is_blank, behind_bracket, after, cut, words}

-- a blank, or nothing
abbrev pub is_boundary : List ℕ → Bool
is_boundary [] = true
is_boundary (byte ∷ bytes) = is_blank byte

-- a word that is cut as it is
pub record Solid (word : List ℕ) : Type 0 where
  pub alone : (rest : List ℕ) → is_boundary rest ≡ true → words (word ++ rest) ≡ word ∷ words rest

not_false : (b : Bool) → not b ≡ true → b ≡ false
not_false true e = absurd (true≢false (sym e))
not_false false e = refl

plain_end : (rest : List ℕ) → is_boundary rest ≡ true → cut Plain rest ≡ [] ∷ words rest
unfolding cut
plain_end [] e = refl
plain_end (byte ∷ bytes) e = rw e refl

-- no blank
abbrev pub is_solid : ℕ → Bool
is_solid byte = not (is_blank byte)

cut_plain : (word rest : List ℕ) → list_all is_solid word ≡ true → is_boundary rest ≡ true → cut Plain (word ++ rest) ≡ word ∷ words rest
unfolding cut
cut_plain [] rest all e = plain_end rest e
cut_plain (byte ∷ word) rest all e =
    let parts = and_parts (is_solid byte) (list_all is_solid word) all in
    let here : is_blank byte ≡ false = not_false (is_blank byte) parts.0 in
    rw (here, cut_plain word rest parts.1 e) refl

-- a word without blanks that begins neither a text nor a label
abbrev pub is_plain_word : List ℕ → Bool
is_plain_word [] = false
is_plain_word (byte ∷ bytes) = is_solid byte && not (byte == 34) && not (byte == 60) && list_all is_solid bytes

pub solid_plain : (word : List ℕ) → is_plain_word word ≡ true → Solid word
unfolding cut
solid_plain [] e = absurd (true≢false (sym e))
solid_plain (byte ∷ bytes) e = record {
  alone = λ rest end.
      let most = and_parts (is_solid byte && not (byte == 34) && not (byte == 60)) (list_all is_solid bytes) e in
      let some = and_parts (is_solid byte && not (byte == 34)) (not (byte == 60)) most.0 in
      let two = and_parts (is_solid byte) (not (byte == 34)) some.0 in
      rw (not_false (is_blank byte) two.0, not_false (byte == 34) two.1, not_false (byte == 60) some.1, cut_plain bytes rest most.1 end) refl;
}

pub solid_keyword : (keyword : Keyword) → Solid (word_of keyword)
solid_keyword keyword.Proc = solid_plain _ refl
solid_keyword k = solid_plain _ refl

pub solid_one : (op : One) → Solid (one_word op)
solid_one one.Not = solid_plain _ refl
solid_one one.Neg = solid_plain _ refl
solid_one one.Len = solid_plain _ refl
solid_one one.Num = solid_plain _ refl
solid_one one.Str = solid_plain _ refl
solid_one one.LabelOf = solid_plain _ refl

behind_boundary : (rest : List ℕ) → is_boundary rest ≡ true → behind_bracket rest ≡ Plain
behind_boundary [] e = refl
behind_boundary (byte ∷ bytes) e = rw e refl

pub solid_two : (op : Two) → Solid (two_word op)
unfolding cut
solid_two two.Add = solid_plain _ refl
solid_two two.Sub = solid_plain _ refl
solid_two two.Mul = solid_plain _ refl
solid_two two.Div = solid_plain _ refl
solid_two two.Rem = solid_plain _ refl
solid_two two.Eq = solid_plain _ refl
solid_two two.Ne = solid_plain _ refl
solid_two two.Lt = record { alone = λ rest end. rw (behind_boundary rest end, plain_end rest end) refl }
solid_two two.Le = record { alone = λ rest end. rw (plain_end rest end) refl }
solid_two two.And = solid_plain _ refl
solid_two two.Or = solid_plain _ refl
solid_two two.Join = solid_plain _ refl
solid_two two.Meet = solid_plain _ refl
solid_two two.Flows = solid_plain _ refl
solid_two two.From = solid_plain _ refl
solid_two two.Upto = solid_plain _ refl
solid_two two.Find = solid_plain _ refl
solid_two two.Push = solid_plain _ refl
solid_two two.At = solid_plain _ refl

-- bytes before the first word of others
pub prepend : List ℕ → List (List ℕ) → List (List ℕ)
prepend [] parts = parts
prepend (byte ∷ bytes) parts = onto_first byte (prepend bytes parts)

pub prepend-first : (bytes first : List ℕ) (parts : List (List ℕ)) → prepend bytes (first ∷ parts) ≡ (bytes ++ first) ∷ parts
unfolding prepend
prepend-first [] first parts = refl
prepend-first (byte ∷ bytes) first parts = ap (onto_first byte) (prepend-first bytes first parts)

-- a hexadecimal digit ends no text
pub hex_in_text : (n : ℕ) → n < 16 → after Quoted (hex_digit n) ≡ Quoted
hex_in_text n small = by (nat_lt n 10) refl
  where
    by : (b : Bool) → nat_lt n 10 ≡ b → after Quoted (hex_digit n) ≡ Quoted
    by true e = let low : n < 10 = ltb-true n 10 e in rw (e, ne_eqb (n + 48) 34 (omega arith), ne_eqb (n + 48) 92 (omega arith)) refl
    by false e = let high : 10 ≤ n = ltb-false n 10 e in rw (e, ne_eqb (n + 87) 34 (omega arith), ne_eqb (n + 87) 92 (omega arith)) refl

-- a byte of a text
pub cut_byte : (byte : ℕ) (more : List ℕ) → byte < 256 → cut Quoted (quoted.escaped byte ++ more) ≡ prepend (quoted.escaped byte) (cut Quoted more)
unfolding cut prepend quoted.escaped
cut_byte byte more small = by (byte == 34) (byte == 92) (byte == 10) (nat_le 32 byte && nat_le byte 126) refl refl refl refl
  where
    by : (a b c d : Bool) → (byte == 34) ≡ a → (byte == 92) ≡ b → (byte == 10) ≡ c → (nat_le 32 byte && nat_le byte 126) ≡ d
        → cut Quoted (quoted.escaped byte ++ more) ≡ prepend (quoted.escaped byte) (cut Quoted more)
    by true b c d e f g h = rw e refl
    by false true c d e f g h = rw (e, f) refl
    by false false true d e f g h = rw (e, f, g) refl
    by false false false true e f g h = rw (e, f, g, h, e, f) refl
    by false false false false e f g h =
        rw (e, f, g, h, hex_in_text (byte / 16) (omega arith), hex_in_text (byte % 16) (omega arith)) refl

pub cut_text : (bytes rest : List ℕ) → list_all is_byte bytes ≡ true → is_boundary rest ≡ true
    → cut Quoted ((flat_map quoted.escaped bytes ++ codes "\"") ++ rest) ≡ (flat_map quoted.escaped bytes ++ codes "\"") ∷ words rest
unfolding cut
cut_text [] rest all end = rw (plain_end rest end) refl
cut_text (byte ∷ bytes) rest all end =
    let parts = and_parts (is_byte byte) (list_all is_byte bytes) all in
    let close : List ℕ = codes "\"" in
    let left : ((quoted.escaped byte ++ flat_map quoted.escaped bytes) ++ close) ++ rest ≡ quoted.escaped byte ++ ((flat_map quoted.escaped bytes ++ close) ++ rest) = simp append_assoc in
    let right : quoted.escaped byte ++ (flat_map quoted.escaped bytes ++ close) ≡ (quoted.escaped byte ++ flat_map quoted.escaped bytes) ++ close = simp append_assoc in
    ap (cut Quoted) left ∙ cut_byte byte ((flat_map quoted.escaped bytes ++ close) ++ rest) (ltb-true byte 256 parts.0)
    ∙ ap (prepend (quoted.escaped byte)) (cut_text bytes rest parts.1 end) ∙ prepend-first (quoted.escaped byte) (flat_map quoted.escaped bytes ++ close) (words rest)
    ∙ ap (λ w. w ∷ words rest) right

pub solid_text : (bytes : List ℕ) → list_all is_byte bytes ≡ true → Solid (quoted bytes)
unfolding cut
solid_text bytes all = record { alone = λ rest end. ap (onto_first 34) (cut_text bytes rest all end) }

-- what ends no label
abbrev pub is_in_label : ℕ → Bool
is_in_label byte = not (byte == 62)

cut_label : (text rest : List ℕ) → list_all is_in_label text ≡ true → is_boundary rest ≡ true → cut Bracketed ((text ++ codes ">") ++ rest) ≡ (text ++ codes ">") ∷ words rest
unfolding cut
cut_label [] rest all end = rw (plain_end rest end) refl
cut_label (byte ∷ text) rest all end =
    let parts = and_parts (is_in_label byte) (list_all is_in_label text) all in
    rw (not_false (byte == 62) parts.0) (ap (onto_first byte) (cut_label text rest parts.1 end))

-- a label begins behind its bracket
abbrev pub begins_label : List ℕ → Bool
begins_label [] = false
begins_label (byte ∷ bytes) = not (is_blank byte || byte == 61)

behind_label : (text rest : List ℕ) → begins_label text ≡ true → behind_bracket ((text ++ codes ">") ++ rest) ≡ Bracketed
behind_label [] rest e = absurd (true≢false (sym e))
behind_label (byte ∷ bytes) rest e = rw (not_false (is_blank byte || byte == 61) e) refl

pub solid_label : (text : List ℕ) → list_all is_in_label text ≡ true → begins_label text ≡ true → Solid (codes "<" ++ text ++ codes ">")
unfolding cut
solid_label text all begins = record { alone = λ rest end. rw (behind_label text rest begins) (ap (onto_first 60) (cut_label text rest all end)) }
