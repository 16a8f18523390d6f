-- What is read of wholes and texts is within its type.
use Rattle.std.proofs.Common.{◌≡◌, ℕ, zero, suc, ◌==◌, Bool, true, false, ◌&&◌, List, [], ◌∷◌, refl, arith, Option, Some, None, ℤ, pos, neg_ℤ}
use Rattle.std.specs.Prelude.{nat_lt, nat_le, if◌then◌else◌}
use Rattle.std.proofs.lemmas.Bool.Decides.{nat_tests}
use Rattle.std.specs.List.{list_all}
use Rattle.std.specs.Option.{option_and_then}
use Rattle.lio_syntax_lines.specs.Literals.{is_digit, is_whole, is_byte, positive, negative, digits_of, whole_of, hex_value, both_digits, escape_of, is_printable, put_before, at_end, unquoted, escaped, first_digit, second_digit, text_of}

-- a whole, if there is one
abbrev fits : Option ℤ → Bool
fits None = true
fits (Some z) = is_whole z

fits_positive : (n : ℕ) → fits (positive n) ≡ true
fits_positive n = by (nat_le n 9223372036854775807) refl
  where
    by : (b : Bool) → nat_le n 9223372036854775807 ≡ b → fits (positive n) ≡ true
    by true e = rw e e
    by false e = rw e refl

negative_small : (n : ℕ) → nat_le n 9223372036854775808 ≡ true → is_whole (neg_ℤ (pos n)) ≡ true
negative_small zero e = refl
negative_small (suc n) e = grind (arith, nat_tests)

fits_negative : (n : ℕ) → fits (negative n) ≡ true
fits_negative n = by (nat_le n 9223372036854775808) refl
  where
    by : (b : Bool) → nat_le n 9223372036854775808 ≡ b → fits (negative n) ≡ true
    by true e = rw e (negative_small n e)
    by false e = rw e refl

fits_then : (f : ℕ → Option ℤ) (o : Option ℕ) → ((n : ℕ) → fits (f n) ≡ true) → fits (option_and_then f o) ≡ true
fits_then f None all = refl
fits_then f (Some n) all = all n

fits_whole : (word : List ℕ) → fits (whole_of word) ≡ true
fits_whole [] = refl
fits_whole (byte ∷ bytes) = by (byte == 45)
  where
    by : (b : Bool) → fits (if b then option_and_then negative (digits_of bytes) else option_and_then positive (digits_of (byte ∷ bytes))) ≡ true
    by true = fits_then negative (digits_of bytes) fits_negative
    by false = fits_then positive (digits_of (byte ∷ bytes)) fits_positive

pub whole_within : (word : List ℕ) (z : ℤ) → whole_of word ≡ Some z → is_whole z ≡ true
whole_within word z e = rw e at (fits_whole word)

-- a byte, and bytes, if there are some
abbrev one_small : Option ℕ → Bool
one_small None = true
one_small (Some byte) = is_byte byte

abbrev all_small : Option (List ℕ) → Bool
all_small None = true
all_small (Some bytes) = list_all is_byte bytes

small_put : (byte : Option ℕ) (bytes : Option (List ℕ)) → one_small byte ≡ true → all_small bytes ≡ true → all_small (put_before byte bytes) ≡ true
small_put None bytes e f = refl
small_put (Some byte) None e f = refl
small_put (Some byte) (Some bytes) e f = rw (e, f) refl

small_end : (bytes : List ℕ) → all_small (at_end bytes) ≡ true
small_end [] = refl
small_end (byte ∷ bytes) = refl

small_escape : (sign : ℕ) → one_small (escape_of sign) ≡ true
small_escape sign = by (sign == 34) (sign == 92) (sign == 110)
  where
    by : (a b c : Bool) → one_small (if a then Some 34 else (if b then Some 92 else (if c then Some 10 else None))) ≡ true
    by true b c = refl
    by false true c = refl
    by false false true = refl
    by false false false = refl

-- the value of a hexadecimal digit
abbrev low : Option ℕ → Bool
low None = true
low (Some n) = nat_lt n 16

low_hex : (digit : ℕ) → low (hex_value digit) ≡ true
low_hex digit = by (is_digit digit) (nat_le 97 digit && nat_le digit 102) refl refl
  where
    by : (a b : Bool) → is_digit digit ≡ a → (nat_le 97 digit && nat_le digit 102) ≡ b → low (hex_value digit) ≡ true
    by true b e f = rw e (grind (arith, nat_tests))
    by false true e f = rw (e, f) (grind (arith, nat_tests))
    by false false e f = rw (e, f) refl

small_digits : (high other : Option ℕ) → low high ≡ true → low other ≡ true → one_small (both_digits high other) ≡ true
small_digits None other e f = refl
small_digits (Some h) None e f = refl
small_digits (Some h) (Some l) e f = grind (arith, nat_tests)

printable_small : (byte : ℕ) → is_printable byte ≡ true → is_byte byte ≡ true
printable_small byte e = grind (arith, nat_tests)

step : (byte : ℕ) (bytes : List ℕ) → all_small (unquoted bytes) ≡ true → all_small (escaped bytes) ≡ true → all_small (unquoted (byte ∷ bytes)) ≡ true
unfolding unquoted
step byte bytes more behind = by (byte == 34) (byte == 92) (is_printable byte) refl
  where
    by : (a b c : Bool) → is_printable byte ≡ c
        → all_small (if a then at_end bytes else (if b then escaped bytes else (if c then put_before (Some byte) (unquoted bytes) else None))) ≡ true
    by true b c e = small_end bytes
    by false true c e = behind
    by false false true e = small_put (Some byte) (unquoted bytes) (printable_small byte e) more
    by false false false e = refl

step_escaped : (sign : ℕ) (bytes : List ℕ) → all_small (unquoted bytes) ≡ true → all_small (first_digit bytes) ≡ true → all_small (escaped (sign ∷ bytes)) ≡ true
unfolding escaped
step_escaped sign bytes more digits = by (sign == 120)
  where
    by : (a : Bool) → all_small (if a then first_digit bytes else put_before (escape_of sign) (unquoted bytes)) ≡ true
    by true = digits
    by false = small_put (escape_of sign) (unquoted bytes) (small_escape sign) more

mutual
  unfolding unquoted escaped first_digit second_digit

  small_unquoted : (bytes : List ℕ) → all_small (unquoted bytes) ≡ true
  small_unquoted [] = refl
  small_unquoted (byte ∷ bytes) = step byte bytes (small_unquoted bytes) (small_escaped bytes)

  small_escaped : (bytes : List ℕ) → all_small (escaped bytes) ≡ true
  small_escaped [] = refl
  small_escaped (sign ∷ bytes) = step_escaped sign bytes (small_unquoted bytes) (small_first bytes)

  small_first : (bytes : List ℕ) → all_small (first_digit bytes) ≡ true
  small_first [] = refl
  small_first (high ∷ bytes) = small_second high bytes

  small_second : (high : ℕ) (bytes : List ℕ) → all_small (second_digit high bytes) ≡ true
  small_second high [] = refl
  small_second high (other ∷ bytes) =
      small_put (both_digits (hex_value high) (hex_value other)) (unquoted bytes) (small_digits (hex_value high) (hex_value other) (low_hex high) (low_hex other)) (small_unquoted bytes)

pub text_within : (word bytes : List ℕ) → text_of word ≡ Some bytes → list_all is_byte bytes ≡ true
text_within [] bytes e = let none : None ≡ Some bytes = e in absurd (cc)
text_within (byte ∷ word) bytes e = by (byte == 34) e
  where
    by : (b : Bool) → (if b then unquoted word else None) ≡ Some bytes → list_all is_byte bytes ≡ true
    by true is = rw is at (small_unquoted word)
    by false is = let none : None ≡ Some bytes = is in absurd (cc)
