-- Equal keys of short names are of equal names.
use Rattle.std.specs.Prelude.{min, bytes_eq, true}
use Rattle.std.proofs.Common.{◌≡◌, ℕ, zero, suc, ◌*◌, ◌^◌, ◌<◌, ◌≤◌, List, length, arith}
use Rattle.std.proofs.lemmas.List.{ext_get_or}
use Rattle.std.proofs.lemmas.Slice.Eq.{bytes_eq-Decides}
use Rattle.lio_values.specs.Names.{AreBytes, digit, with_digit, key_of}

-- a number's last digit and what stands before it are told by the number
number_before : (a b x y : ℕ) → x < 256 → y < 256 → with_digit a x ≡ with_digit b y → a ≡ b
number_before a b x y small other same = omega (arith, same, small, other)

last_digit : (a b x y : ℕ) → x < 256 → y < 256 → with_digit a x ≡ with_digit b y → x ≡ y
last_digit a b x y small other same = omega (arith, same, small, other)

-- what holds of the first seven numbers
within_seven : (P : ℕ → Type 0) → P 0 → P 1 → P 2 → P 3 → P 4 → P 5 → P 6 → (i : ℕ) → i < 7 → P i
within_seven P p0 p1 p2 p3 p4 p5 p6 zero few = p0
within_seven P p0 p1 p2 p3 p4 p5 p6 (suc zero) few = p1
within_seven P p0 p1 p2 p3 p4 p5 p6 (suc (suc zero)) few = p2
within_seven P p0 p1 p2 p3 p4 p5 p6 (suc (suc (suc zero))) few = p3
within_seven P p0 p1 p2 p3 p4 p5 p6 (suc (suc (suc (suc zero)))) few = p4
within_seven P p0 p1 p2 p3 p4 p5 p6 (suc (suc (suc (suc (suc zero))))) few = p5
within_seven P p0 p1 p2 p3 p4 p5 p6 (suc (suc (suc (suc (suc (suc zero)))))) few = p6
within_seven P p0 p1 p2 p3 p4 p5 p6 (suc (suc (suc (suc (suc (suc (suc i))))))) few = absurd (omega (arith, few))

-- the digits of two keys are the same, one after the other
record SameDigits (xs ys : List ℕ) : Type 0 where
  lengths : min (length xs) 255 ≡ min (length ys) 255
  digits : (i : ℕ) → i < 7 → digit xs i ≡ digit ys i

same_digits : (xs ys : List ℕ) → AreBytes xs → AreBytes ys → key_of xs ≡ key_of ys → SameDigits xs ys
unfolding key_of
same_digits xs ys left right same =
    let six = number_before _ _ _ _ (left 6) (right 6) same in
    let five = number_before _ _ _ _ (left 5) (right 5) six in
    let four = number_before _ _ _ _ (left 4) (right 4) five in
    let three = number_before _ _ _ _ (left 3) (right 3) four in
    let two = number_before _ _ _ _ (left 2) (right 2) three in
    let one = number_before _ _ _ _ (left 1) (right 1) two in
    record {
      lengths = number_before _ _ _ _ (left 0) (right 0) one;
      digits = λ i. within_seven (λ n. digit xs n ≡ digit ys n)
          (last_digit _ _ _ _ (left 0) (right 0) one) (last_digit _ _ _ _ (left 1) (right 1) two) (last_digit _ _ _ _ (left 2) (right 2) three) (last_digit _ _ _ _ (left 3) (right 3) four)
          (last_digit _ _ _ _ (left 4) (right 4) five) (last_digit _ _ _ _ (left 5) (right 5) six) (last_digit _ _ _ _ (left 6) (right 6) same) i;
    }

-- the key of a short name
short_length : (xs : List ℕ) → AreBytes xs → key_of xs < 8 * 2 ^ 56 → length xs ≤ 7
unfolding key_of
short_length xs bytes short = omega (arith, short)

-- equal keys of a short name and another one are of one name
pub is_same : (xs ys : List ℕ) → AreBytes xs → AreBytes ys → key_of xs ≡ key_of ys → key_of xs < 8 * 2 ^ 56 → bytes_eq xs ys ≡ true
is_same xs ys left right same short =
    let digits = same_digits xs ys left right same in
    let few : length xs ≤ 7 = short_length xs left short in
    let other : length ys ≤ 7 = short_length ys right (omega (arith, same, short)) in
    let lengths : length xs ≡ length ys = omega (arith, digits.lengths, few, other) in
    (bytes_eq-Decides xs ys).1 (ext_get_or 0 xs ys lengths (λ i within. digits.digits i (omega (arith, within, few))))
