-- What is printed of names and literals is read as them.
use Rattle.std.proofs.Common.{◌≡◌, ℕ, suc, ◌+◌, ◌-◌, ◌*◌, ◌/◌, ◌%◌, ◌^◌, ◌<◌, ◌≤◌, ◌==◌, Bool, true, false, ◌&&◌, List, [], ◌∷◌, ◌++◌, length, length-append, take, drop, refl, ap, sym, arith, ◌∙◌, eqb-true, append_assoc, Option, Some, None, ℤ, pos, negsuc, Ok, codes, lit<, rules}
use Rattle.std.specs.Prelude.{nat_lt, nat_le, if◌then◌else◌, decimal}
use Rattle.std.specs.Fmt.{signed_decimal}
use Rattle.std.proofs.lemmas.Bool.Decides.{nat_tests}
use Rattle.std.proofs.lemmas.Bool.{and_parts}
use Rattle.std.proofs.lemmas.Grind.{common_steps}
use Rattle.std.proofs.lemmas.Fmt.{digits_decimal, digits_value-decimal, decimal_nonempty, length-decimal-le}
use Rattle.std.proofs.lemmas.Str.Parse.{IsNumeralModel, numerals_by_fold}
use Rattle.std.specs.List.{list_all, flat_map}
use Rattle.std.specs.Option.{option_map, option_and_then}
use borrow.Author.Tests.{ltb-true, ltb-false}
use Rattle.lio_clauses.specs.Names.{is_letter}
use Rattle.lio_labels.specs.declared.label.Label.{Label}
use Rattle.lio_labels.specs.LabelText.{reading}
use Rattle.lio_labels.specs.LabelPrint.{label_text}
use Rattle.lio_values.specs.declared.value.Plain.TheVariants.{Unit as unit, Flag, Whole, Bytes, Lab, Items}
use Rattle.lio_values.specs.Forest.{Nothing}
use Rattle.lio_values.specs.Quoted.{hex_digit, quoted}
use Rattle.lio_values.specs.Quoted as quoted
use Rattle.lio_syntax_lines.specs.Keyword.{keyword_of}
use Rattle.lio_syntax_lines.specs.Operators.{one_of, two_of}
use Rattle.lio_syntax_lines.specs.Literals.{constant_of, empty_of, is_reserved, is_name, is_digit, is_whole, is_byte, number_from, positive, digits_of, whole_of, hex_value, is_printable, put_before, unquoted, escaped, first_digit, second_digit, text_of, bracketed, label_of, literal_of, or_else}

-- a word that doesn't begin with a letter is no name
pub no_name : (byte : ℕ) (bytes : List ℕ) → is_letter byte ≡ false → is_name (byte ∷ bytes) ≡ false
unfolding is_name
no_name byte bytes e = rw e refl

-- a hexadecimal digit is read as its value
hex_back : (n : ℕ) → n < 16 → hex_value (hex_digit n) ≡ Some n
hex_back n small = by (nat_lt n 10) refl
  where
    by : (b : Bool) → nat_lt n 10 ≡ b → hex_value (hex_digit n) ≡ Some n
    by true e =
        let few : n < 10 = ltb-true n 10 e in
        let digit : is_digit (n + 48) ≡ true = grind (arith, nat_tests) in
        let same : n + 48 - 48 ≡ n = omega arith in
        rw (e, digit, same) refl
    by false e =
        let many : 10 ≤ n = ltb-false n 10 e in
        let digit : is_digit (n + 87) ≡ false = grind (arith, nat_tests) in
        let letter : (nat_le 97 (n + 87) && nat_le (n + 87) 102) ≡ true = grind (arith, nat_tests) in
        let same : n + 87 - 87 ≡ n = omega arith in
        rw (e, digit, letter, same) refl

-- a byte of a text is read as it is
unquoted_byte : (byte : ℕ) (more : List ℕ) → byte < 256 → unquoted (quoted.escaped byte ++ more) ≡ put_before (Some byte) (unquoted more)
unfolding unquoted escaped first_digit second_digit quoted.escaped
unquoted_byte byte more small = by (byte == 34) (byte == 92) (byte == 10) (is_printable byte) refl refl refl refl
  where
    by : (a b c d : Bool) → (byte == 34) ≡ a → (byte == 92) ≡ b → (byte == 10) ≡ c → is_printable byte ≡ d
        → unquoted (quoted.escaped byte ++ more) ≡ put_before (Some byte) (unquoted more)
    by true b c d e f g h = rw e (ap (λ n. put_before (Some n) (unquoted more)) (sym (eqb-true byte 34 e)))
    by false true c d e f g h = rw (e, f) (ap (λ n. put_before (Some n) (unquoted more)) (sym (eqb-true byte 92 f)))
    by false false true d e f g h = rw (e, f, g) (ap (λ n. put_before (Some n) (unquoted more)) (sym (eqb-true byte 10 g)))
    by false false false true e f g h = rw (e, f, g, h, e, f, h) refl
    by false false false false e f g h =
        let same : byte / 16 * 16 + byte % 16 ≡ byte = omega arith in
        rw (e, f, g, h, hex_back (byte / 16) (omega arith), hex_back (byte % 16) (omega arith)) (ap (λ n. put_before (Some n) (unquoted more)) same)

unquoted_bytes : (bytes : List ℕ) → list_all is_byte bytes ≡ true → unquoted (flat_map quoted.escaped bytes ++ codes "\"") ≡ Some bytes
unfolding unquoted
unquoted_bytes [] all = refl
unquoted_bytes (byte ∷ bytes) all =
    let parts = and_parts (is_byte byte) (list_all is_byte bytes) all in
    let close : List ℕ = codes "\"" in
    let left : (quoted.escaped byte ++ flat_map quoted.escaped bytes) ++ close ≡ quoted.escaped byte ++ (flat_map quoted.escaped bytes ++ close) = simp append_assoc in
    ap unquoted left ∙ unquoted_byte byte (flat_map quoted.escaped bytes ++ close) (ltb-true byte 256 parts.0) ∙ ap (put_before (Some byte)) (unquoted_bytes bytes parts.1)

-- what begins with no digit is no number
no_digits : (byte : ℕ) (bytes : List ℕ) → is_digit byte ≡ false → digits_of (byte ∷ bytes) ≡ None
unfolding digits_of
no_digits byte bytes e = by (nat_lt 0 (length (byte ∷ bytes)) && nat_le (length (byte ∷ bytes)) 19)
  where
    by : (b : Bool) → (if b && (is_digit byte && list_all is_digit bytes) then Some (number_from 0 (byte ∷ bytes)) else None) ≡ None
    by true = rw e refl
    by false = refl

no_whole : (byte : ℕ) (bytes : List ℕ) → (byte == 45) ≡ false → is_digit byte ≡ false → whole_of (byte ∷ bytes) ≡ None
no_whole byte bytes e f = rw (e, no_digits byte bytes f) refl

-- texts
pub text_is_literal : (names : List (List ℕ)) (bytes : List ℕ) → list_all is_byte bytes ≡ true → literal_of names (quoted bytes) ≡ Some (Bytes bytes)
unfolding literal_of constant_of
text_is_literal names bytes all = rw (no_whole 34 (flat_map quoted.escaped bytes ++ codes "\"") refl refl, unquoted_bytes bytes all) refl

pub text_is_no_name : (bytes : List ℕ) → is_name (quoted bytes) ≡ false
text_is_no_name bytes = no_name 34 (flat_map quoted.escaped bytes ++ codes "\"") refl

-- numbers
pub own : IsNumeralModel (λ ds. list_all is_digit ds ≡ true) (number_from 0)
unfolding number_from
own = numerals_by_fold _ (search rules) number_from (search rules)

-- digits of a number of at most 19
digits_back : (n : ℕ) → n < 10 ^ 19 → digits_of (decimal n) ≡ Some n
unfolding digits_of
digits_back n small =
    let fits : n < 2 ^ 64 = omega arith in
    let all : list_all is_digit (decimal n) ≡ true = digits_decimal own n fits in
    let some : nat_lt 0 (length (decimal n)) ≡ true = grind (arith, nat_tests, decimal_nonempty n fits) in
    let few : nat_le (length (decimal n)) 19 ≡ true = grind (arith, nat_tests, length-decimal-le 19 n (lit< tt) small fits) in
    rw (some, few, all) (ap Some (digits_value-decimal own n fits))

digit_is : (byte : ℕ) → is_digit byte ≡ true → (byte == 45) ≡ false
digit_is byte e = grind (arith, nat_tests)

digit_no_letter : (byte : ℕ) → is_digit byte ≡ true → is_letter byte ≡ false
digit_no_letter byte e = grind (arith, nat_tests)

-- digits are no name and no constant
no_constant : (byte : ℕ) (bytes : List ℕ) → is_digit byte ≡ true → constant_of (byte ∷ bytes) ≡ None
unfolding constant_of
no_constant byte bytes e =
    let t : (byte == 116) ≡ false = grind (arith, nat_tests) in
    let f : (byte == 102) ≡ false = grind (arith, nat_tests) in
    let u : (byte == 117) ≡ false = grind (arith, nat_tests) in
    rw (t, f, u) refl

positive_word : (names : List (List ℕ)) (word : List ℕ) (n : ℕ) → list_all is_digit word ≡ true → digits_of word ≡ Some n → nat_le n 9223372036854775807 ≡ true
    → literal_of names word ≡ Some (Whole (pos n))
unfolding literal_of digits_of
positive_word names [] n all e few = let none : None ≡ Some n = e in absurd (cc)
positive_word names (byte ∷ bytes) n all e few =
    let parts = and_parts (is_digit byte) (list_all is_digit bytes) all in
    rw (no_constant byte bytes parts.0, digit_is byte parts.0) (whole (digits_of (byte ∷ bytes)) e)
  where
    whole : (o : Option ℕ) → o ≡ Some n → or_else None (or_else (option_map Whole (option_and_then positive o)) (or_else (option_map Bytes (text_of (byte ∷ bytes))) (or_else (option_map Lab (label_of names (byte ∷ bytes))) (empty_of (byte ∷ bytes))))) ≡ Some (Whole (pos n))
    whole o is = rw (is, few) refl

positive_no_name : (word : List ℕ) → list_all is_digit word ≡ true → is_name word ≡ false
unfolding is_name
positive_no_name [] all = refl
positive_no_name (byte ∷ bytes) all =
    let parts = and_parts (is_digit byte) (list_all is_digit bytes) all in no_name byte bytes (digit_no_letter byte parts.0)

pub whole_is_literal : (names : List (List ℕ)) (z : ℤ) → is_whole z ≡ true → literal_of names (signed_decimal z) ≡ Some (Whole z)
unfolding literal_of constant_of
whole_is_literal names (pos n) e =
    let few : n < 10 ^ 19 = grind (arith, nat_tests) in
    positive_word names (decimal n) n (digits_decimal own n (omega arith)) (digits_back n few) e
whole_is_literal names (negsuc n) e =
    let few : suc n < 10 ^ 19 = grind (arith, nat_tests) in
    let within : nat_le (suc n) 9223372036854775808 ≡ true = grind (arith, nat_tests) in
    rw (digits_back (suc n) few, within) refl

pub whole_is_no_name : (z : ℤ) → is_whole z ≡ true → is_name (signed_decimal z) ≡ false
whole_is_no_name (pos n) e = let few : n < 2 ^ 64 = grind (arith, nat_tests) in positive_no_name (decimal n) (digits_decimal own n few)
whole_is_no_name (negsuc n) e = no_name 45 (decimal (suc n)) refl

-- flags and unit
pub constant_is_literal : (names : List (List ℕ)) → (literal_of names (codes "true") ≡ Some (Flag true)) × (literal_of names (codes "false") ≡ Some (Flag false)) × (literal_of names (codes "unit") ≡ Some unit)
unfolding literal_of constant_of
constant_is_literal names = (refl, refl, refl)

pub constant_is_no_name : (is_name (codes "true") ≡ false) × (is_name (codes "false") ≡ false) × (is_name (codes "unit") ≡ false)
unfolding is_name is_reserved keyword_of one_of two_of constant_of
constant_is_no_name = (refl, refl, refl)

-- the empty list
pub empty_is_literal : (names : List (List ℕ)) → literal_of names (codes "[]") ≡ Some (Items Nothing)
unfolding literal_of constant_of digits_of bracketed
empty_is_literal names = refl

pub empty_is_no_name : is_name (codes "[]") ≡ false
empty_is_no_name = no_name 91 (codes "]") refl

-- labels
in_brackets : (text : List ℕ) → bracketed (codes "<" ++ text ++ codes ">") ≡ Some text
unfolding bracketed
in_brackets text =
    let close : List ℕ = codes ">" in
    let len : length (text ++ close) - 1 ≡ length text = omega (arith, length-append text close) in
    let front : take (length text) (text ++ close) ≡ text = grind (arith, common_steps) in
    let back : drop (length text) (text ++ close) ≡ close = grind (arith, common_steps) in
    rw (len, back, front) refl

pub label_is_literal : (names : List (List ℕ)) (l : Label) → reading names (label_text names l) ≡ Ok l → literal_of names (codes "<" ++ label_text names l ++ codes ">") ≡ Some (Lab l)
unfolding literal_of constant_of
label_is_literal names l e = rw (no_whole 60 (label_text names l ++ codes ">") refl refl, in_brackets (label_text names l), e) refl

pub label_is_no_name : (text : List ℕ) → is_name (codes "<" ++ text ++ codes ">") ≡ false
label_is_no_name text = no_name 60 (text ++ codes ">") refl
