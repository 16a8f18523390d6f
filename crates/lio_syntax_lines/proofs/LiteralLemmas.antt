-- On the digits of wholes and the bytes of texts.
use Rattle.std.proofs.Common.{◌≡◌, ℕ, suc, ◌+◌, ◌-◌, ◌*◌, ◌^◌, ◌<◌, ◌≤◌, Bool, true, false, IsTrue, List, [], ◌∷◌, ◌++◌, length, get_or, take, drop, refl, ap, sym, arith, ◌∙◌, add-one, append_assoc, lit<, Option, Some, None}
use Rattle.std.proofs.Math.Nat.{pow-suc, pow-le-pow_right}
use Rattle.std.proofs.lemmas.Grind.{common_steps}
use Rattle.std.proofs.lemmas.Bool.Decides.{nat_tests}
use Rattle.std.proofs.lemmas.List.{take_all}
use Rattle.std.proofs.lemmas.List.Folds.{list_all_at}
use Rattle.std.proofs.Math.Seq.{drop-cons}
use Rattle.std.specs.List.{list_all}
use Rattle.std.specs.Option.{option_map}
use Rattle.lio_syntax_lines.specs.Literals.{is_digit, number_from, unquoted, at_end, put_before}

-- a digit is at most 9
pub digit_at : (digits : List ℕ) (i : ℕ) → i < length digits → IsTrue (list_all is_digit digits) → get_or digits i 0 - 48 ≤ 9
digit_at digits i within all = by (is_digit (get_or digits i 0)) refl
  where
    by : (b : Bool) → is_digit (get_or digits i 0) ≡ b → get_or digits i 0 - 48 ≤ 9
    by true e = grind (arith, nat_tests)
    by false e = let none : list_all is_digit digits ≡ false = list_all_at is_digit digits i 0 within e in absurd (cc)

-- one digit more
pub next_below : (number i digit : ℕ) → number < 10 ^ i → digit ≤ 9 → number * 10 + digit < 10 ^ (i + 1)
next_below number i digit below small = rw (add-one, pow-suc) (omega arith)

-- at most 19 digits fit
pub next_fits : (number i digit : ℕ) → number < 10 ^ i → i < 19 → digit ≤ 9 → number * 10 + digit < 2 ^ 64
next_fits number i digit below few small = let most : 10 ^ i ≤ 10 ^ 18 = pow-le-pow_right {n = 10} (lit< tt) {i = i} {j = 18} (omega arith) in omega arith

-- the number of the digits from a place on
pub number_from-step : (number i : ℕ) (digits : List ℕ) → i < length digits → number_from number (drop i digits) ≡ number_from (number * 10 + (get_or digits i 0 - 48)) (drop (i + 1) digits)
unfolding number_from
number_from-step number i digits within = rw (add-one, drop-cons digits i 0) refl

-- no digits are left
pub number_from-end : (number i : ℕ) (digits : List ℕ) → length digits ≤ i → number_from number (drop i digits) ≡ number
unfolding number_from
number_from-end number i digits past = let none : drop i digits ≡ [] = grind (arith, common_steps) in rw none refl

-- a text that isn't closed
pub unquoted-open : (text rest : List ℕ) (read : Option (List ℕ)) → read ≡ option_map (λ more. text ++ more) (unquoted rest) → length rest < 1 → None ≡ read
unfolding unquoted
unquoted-open text [] read e none = sym e
unquoted-open text (byte ∷ rest) read e none = absurd (omega arith)

-- a text that is closed
pub unquoted-closed : (text rest : List ℕ) (read closed : Option (List ℕ)) → read ≡ option_map (λ more. text ++ more) (unquoted rest) → 1 ≤ length rest → get_or rest 0 0 ≡ 34
    → closed ≡ option_map (λ more. text ++ more) (at_end (take (length rest - 1) (drop 1 rest))) → closed ≡ read
unfolding unquoted
unquoted-closed text [] read closed e some quote is = absurd (omega arith)
unquoted-closed text (byte ∷ rest) read closed e some quote is =
    let all : take (suc (length rest) - 1) rest ≡ rest = take_all (suc (length rest) - 1) rest (omega arith) in
    let it : closed ≡ option_map (λ more. text ++ more) (at_end rest) = rw all at is in
    it ∙ sym (e ∙ (rw quote refl))

-- a text with one byte more
pub unquoted-more : (text rest behind : List ℕ) (byte : ℕ) (read : Option (List ℕ)) → read ≡ option_map (λ more. text ++ more) (unquoted rest)
    → unquoted rest ≡ put_before (Some byte) (unquoted behind) → read ≡ option_map (λ more. (text ++ byte ∷ []) ++ more) (unquoted behind)
unquoted-more text rest behind byte read e is = e ∙ (rw is (by (unquoted behind)))
  where
    by : (o : Option (List ℕ)) → option_map (λ more. text ++ more) (put_before (Some byte) o) ≡ option_map (λ more. (text ++ byte ∷ []) ++ more) o
    by None = refl
    by (Some more) = ap Some (sym (append_assoc text (byte ∷ []) more))
