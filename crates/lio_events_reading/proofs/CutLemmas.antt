-- Words, labels and texts are cut off where they end.
use Rattle.std.proofs.Common.{◌≡◌, ℕ, suc, ◌+◌, ◌/◌, ◌%◌, ◌<◌, ◌≤◌, ◌==◌, Bool, true, false, not, ◌&&◌, List, [], ◌∷◌, ◌++◌, length, length-append, take, drop, refl, ap, sym, arith, ◌∙◌, append_assoc, ne_eqb, codes}
use Rattle.std.specs.Prelude.{nat_lt, nat_le}
use Rattle.std.specs.List.{list_all, flat_map, prefix_len}
use Rattle.std.proofs.lemmas.Bool.{and_parts}
use borrow.Author.Tests.{ltb-true, ltb-false}
use Rattle.lio_values.specs.Quoted.{hex_digit, escaped, quoted}
use Rattle.lio_syntax_lines.specs.Literals.{is_byte}
use Rattle.lio_events_reading.specs.Reading.{is_word_byte, Ends, Finds}
use Rattle.lio_events_reading.specs.Cut.{IsWord, IsInside, is_inside, bracketed, AreBytes, quoted_len}

-- nothing, or a first byte that doesn't pass
abbrev pub stops : (ℕ → Bool) → List ℕ → Bool
stops p [] = true
stops p (byte ∷ bytes) = not (p byte)

not_false : (b : Bool) → not b ≡ true → b ≡ false
not_false true e = sym e
not_false false e = refl

stopped : (p : ℕ → Bool) (rest : List ℕ) → stops p rest ≡ true → prefix_len p rest ≡ 0
stopped p [] e = refl
stopped p (byte ∷ bytes) e = rw (not_false (p byte) e) refl

-- a front whose bytes pass is counted whole
pub prefix_whole : (p : ℕ → Bool) (front rest : List ℕ) → list_all p front ≡ true → stops p rest ≡ true → prefix_len p (front ++ rest) ≡ length front
prefix_whole p [] rest all end = stopped p rest end
prefix_whole p (byte ∷ front) rest all end =
    let parts = and_parts (p byte) (list_all p front) all in
    let more : prefix_len p (front ++ rest) ≡ length front = prefix_whole p front rest parts.1 end in
    rw (parts.0, more) (omega arith)

pub take_front : (front rest : List ℕ) → take (length front) (front ++ rest) ≡ front
take_front [] rest = refl
take_front (byte ∷ front) rest = ap (λ bytes. byte ∷ bytes) (take_front front rest)

pub drop_front : (front rest : List ℕ) → drop (length front) (front ++ rest) ≡ rest
drop_front [] rest = refl
drop_front (byte ∷ front) rest = drop_front front rest

-- what is cut off, and what is left
pub cut_off : (count : List ℕ → ℕ) (front rest old found left : List ℕ) → count (front ++ rest) ≡ length front → old ≡ front ++ rest → found ≡ take (count old) old → left ≡ drop (count old) old
    → (found ≡ front) × (left ≡ rest)
cut_off count front rest old found left len is f l = (
  f ∙ ap (λ bytes. take (count bytes) bytes) is ∙ ap (λ n. take n (front ++ rest)) len ∙ take_front front rest,
  l ∙ ap (λ bytes. drop (count bytes) bytes) is ∙ ap (λ n. drop n (front ++ rest)) len ∙ drop_front front rest,
)

ends_stop : (rest : List ℕ) → Ends rest → stops is_word_byte rest ≡ true
ends_stop [] e = refl
ends_stop (byte ∷ bytes) e = e

pub finds_word : (old found left : List ℕ) → found ≡ take (prefix_len is_word_byte old) old → left ≡ drop (prefix_len is_word_byte old) old → Finds (λ word. word) IsWord old found left
finds_word old found left f l word rest over end is =
    cut_off (λ bytes. prefix_len is_word_byte bytes) word rest old found left (prefix_whole is_word_byte word rest over (ends_stop rest end)) is f l

pub finds_bracketed : (old one found two left : List ℕ) → one ≡ drop 1 old → found ≡ take (prefix_len is_inside one) one → two ≡ drop (prefix_len is_inside one) one → left ≡ drop 1 two
    → Finds bracketed IsInside old found left
finds_bracketed old one found two left o f t l text rest over end is =
    let close : List ℕ = codes ">" in
    let first : one ≡ text ++ (close ++ rest) = o ∙ ap (λ bytes. drop 1 bytes) is ∙ append_assoc text close rest in
    let cut = cut_off (λ bytes. prefix_len is_inside bytes) text (close ++ rest) one found two (prefix_whole is_inside text (close ++ rest) over refl) first f t in
    (cut.0, l ∙ ap (λ bytes. drop 1 bytes) cut.1)

-- a hexadecimal digit is neither a quote nor a backslash
hex_apart : (n : ℕ) → n < 16 → ((hex_digit n == 34) ≡ false) × ((hex_digit n == 92) ≡ false)
hex_apart n small = by (nat_lt n 10) refl
  where
    by : (b : Bool) → nat_lt n 10 ≡ b → ((hex_digit n == 34) ≡ false) × ((hex_digit n == 92) ≡ false)
    by true e = let low : n < 10 = ltb-true n 10 e in rw e (ne_eqb (n + 48) 34 (omega arith), ne_eqb (n + 48) 92 (omega arith))
    by false e = let high : 10 ≤ n = ltb-false n 10 e in rw e (ne_eqb (n + 87) 34 (omega arith), ne_eqb (n + 87) 92 (omega arith))

-- a byte as it stands in quotes ends no text
quoted_byte : (byte : ℕ) (more : List ℕ) → byte < 256 → quoted_len false (escaped byte ++ more) ≡ length (escaped byte) + quoted_len false more
unfolding quoted_len escaped
quoted_byte byte more small = by (byte == 34) (byte == 92) (byte == 10) (nat_le 32 byte && nat_le byte 126) refl refl refl refl
  where
    by : (a b c d : Bool) → (byte == 34) ≡ a → (byte == 92) ≡ b → (byte == 10) ≡ c → (nat_le 32 byte && nat_le byte 126) ≡ d
        → quoted_len false (escaped byte ++ more) ≡ length (escaped byte) + quoted_len false more
    by true b c d e f g h = rw e (omega arith)
    by false true c d e f g h = rw (e, f) (omega arith)
    by false false true d e f g h = rw (e, f, g) (omega arith)
    by false false false true e f g h = rw (e, f, g, h, e, f) (omega arith)
    by false false false false e f g h =
        let high = hex_apart (byte / 16) (omega arith) in
        let low = hex_apart (byte % 16) (omega arith) in
        rw (e, f, g, h, high.0, high.1, low.0, low.1) (omega arith)

quoted_bytes : (bytes rest : List ℕ) → list_all is_byte bytes ≡ true → quoted_len false ((flat_map escaped bytes ++ codes "\"") ++ rest) ≡ length (flat_map escaped bytes ++ codes "\"")
unfolding quoted_len
quoted_bytes [] rest all = refl
quoted_bytes (byte ∷ bytes) rest all =
    let parts = and_parts (is_byte byte) (list_all is_byte bytes) all in
    let close : List ℕ = codes "\"" in
    let left : ((escaped byte ++ flat_map escaped bytes) ++ close) ++ rest ≡ escaped byte ++ ((flat_map escaped bytes ++ close) ++ rest) = simp append_assoc in
    let right : length (escaped byte) + length (flat_map escaped bytes ++ close) ≡ length ((escaped byte ++ flat_map escaped bytes) ++ close) = simp (append_assoc, length-append) in
    ap (quoted_len false) left ∙ quoted_byte byte ((flat_map escaped bytes ++ close) ++ rest) (ltb-true byte 256 parts.0)
    ∙ ap (λ n. length (escaped byte) + n) (quoted_bytes bytes rest parts.1) ∙ right

-- a text in quotes is counted whole
pub quoted_whole : (text rest : List ℕ) → AreBytes text → quoted_len true (quoted text ++ rest) ≡ length (quoted text)
unfolding quoted_len
quoted_whole text rest all = ap suc (quoted_bytes text rest all)

pub finds_quoted : (old found left : List ℕ) → found ≡ take (quoted_len true old) old → left ≡ drop (quoted_len true old) old
    → (text rest : List ℕ) → AreBytes text → old ≡ quoted text ++ rest → (found ≡ quoted text) × (left ≡ rest)
finds_quoted old found left f l text rest over is = cut_off (quoted_len true) (quoted text) rest old found left (quoted_whole text rest over) is f l
