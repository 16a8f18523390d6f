-- Numbers are found.
use Rattle.std.proofs.Common.{◌≡◌, ℕ, ◌^◌, ◌<◌, true, List, [], ◌∷◌, ◌++◌, length, get_or, refl, ap, sym, subst, ◌∙◌, arith, codes, true≢false, Some, None}
use Rattle.std.specs.Prelude.{decimal}
use Rattle.std.specs.List.{list_all}
use Rattle.std.proofs.lemmas.Bool.{and_parts}
use Rattle.std.proofs.lemmas.Bool.Decides.{nat_tests}
use Rattle.std.proofs.lemmas.Fmt.{digits_decimal, decimal_nonempty}
use Rattle.lio_events.specs.EntryText.{target_text}
use Rattle.lio_syntax_lines.specs.Literals.{is_digit}
use Rattle.lio_syntax_lines.proofs.PrintedLemmas.{own}
use Rattle.lio_syntax_lines.proofs.LabelLemmas.{list_all-weaker}
use Rattle.lio_events_reading.specs.Fits.{TargetFits}
use Rattle.lio_events_reading.specs.Cut.{IsWord}
use Rattle.lio_events_reading.specs.Reading.{is_word_byte, Finds}

digit_in_word : (byte : ℕ) → is_digit byte ≡ true → is_word_byte byte ≡ true
digit_in_word byte e = grind (arith, nat_tests)

-- a number is a word
pub digits_word : (n : ℕ) → n < 2 ^ 64 → IsWord (decimal n)
digits_word n small = list_all-weaker is_digit is_word_byte digit_in_word (decimal n) (digits_decimal own n small)

first_of : (digits rest : List ℕ) → 0 < length digits → list_all is_digit digits ≡ true → is_digit (get_or (digits ++ rest) 0 0) ≡ true
first_of [] rest some all = absurd (omega arith)
first_of (digit ∷ digits) rest some all = (and_parts (is_digit digit) (list_all is_digit digits) all).0

-- and begins with a digit
pub first_digit : (n : ℕ) (rest : List ℕ) → n < 2 ^ 64 → is_digit (get_or (decimal n ++ rest) 0 0) ≡ true
first_digit n rest small = first_of (decimal n) rest (decimal_nonempty n small) (digits_decimal own n small)

pub finds_long : (old word left : List ℕ) (found : ℕ) → Finds (λ word. word) IsWord old word left → ((n : ℕ) → n < 2 ^ 64 → word ≡ decimal n → found ≡ n) → Finds decimal (λ n. n < 2 ^ 64) old found left
finds_long old word left found finds number n rest small e is =
    let g = finds (decimal n) rest (digits_word n small) e is in
    (number n small g.0, g.1)

short_is : (long short n : ℕ) → (long < 2 ^ 32 → short ≡ long) → n < 2 ^ 32 → long ≡ n → short ≡ n
short_is long short n f small e = let within : long < 2 ^ 32 = subst (λ (m : ℕ). m < 2 ^ 32) (sym e) small in f within ∙ e

pub no_dash : (byte : ℕ) → is_digit byte ≡ true → byte ≡ 45 → ⊥
no_dash byte e f = let g : is_digit 45 ≡ true = ap is_digit (sym f) ∙ e in absurd (true≢false (sym g))

pub finds_no_target : (old word left : List ℕ) → Finds (λ word. word) IsWord old word left → get_or old 0 0 ≡ 45 → Finds target_text TargetFits old None left
finds_no_target old word left finds first None rest o e is = (refl, (finds (codes "-") rest refl e is).1)
finds_no_target old word left finds first (Some n) rest o e is =
    let g : get_or (decimal n ++ rest) 0 0 ≡ 45 = sym (ap (λ bytes. get_or bytes 0 0) is) ∙ first in
    absurd (no_dash (get_or (decimal n ++ rest) 0 0) (first_digit n rest (omega arith)) g)

pub finds_target : (old word left : List ℕ) (long short : ℕ) → Finds (λ word. word) IsWord old word left → (get_or old 0 0 ≡ 45 → ⊥) → ((n : ℕ) → n < 2 ^ 64 → word ≡ decimal n → long ≡ n) → (long < 2 ^ 32 → short ≡ long)
    → Finds target_text TargetFits old (Some short) left
finds_target old word left long short finds first number f None rest o e is = absurd (first (ap (λ bytes. get_or bytes 0 0) is))
finds_target old word left long short finds first number f (Some n) rest o e is =
    let wide : n < 2 ^ 64 = omega arith in
    let g = finds (decimal n) rest (digits_word n wide) e is in
    (ap Some (short_is long short n f o (number n wide g.0)), g.1)
