-- Bits in words of 64.
use Rattle.std.proofs.Common.{◌≡◌, ◌≢◌, ℕ, ◌+◌, ◌-◌, ◌*◌, ◌/◌, ◌%◌, ◌^◌, ◌<◌, ◌≤◌, min, max, ◌⊎◌, inl, inr, List, [], ◌∷◌, ◌++◌, length, length-append, get_or, set, sym, ◌∙◌, ap, subst, arith}
use Rattle.std.specs.Prelude.{bit_and, bit_or}
use Rattle.std.specs.Int.{bit_at, w64, trailing_zeros}
use Rattle.std.proofs.lemmas.Bool.{cases_eq, cases_lt}
use Rattle.std.proofs.lemmas.List.{get_or-set_same, get_or-set_other}
use Rattle.std.proofs.Math.ListN.{get_or-append}
use Rattle.std.proofs.Math.Seq.{get_or-append_seam}
use Rattle.std.proofs.lemmas.List.{length-set}
use Rattle.std.proofs.Math.Pow.{pow-lt}
use Rattle.std.proofs.Math.Nat.{mod-eq_of_lt}
use Rattle.std.proofs.lemmas.Nat.{shr-shr, shr_le}
use Rattle.std.proofs.lemmas.Nat.Bits.{bit_at_and, bit_at_or, bit_at_not, bit_at-zero, bit_at-lt, bit_at-pow_same, bit_at-pow_other, bit_at-trailing_zeros, bit_at_above, bit_at_ones}
use Rattle.lio_rounds.specs.Words.{IsClear}

-- a word that is shifted
shifted : (n k i : ℕ) → bit_at (n / 2 ^ k) i ≡ bit_at n (k + i)
shifted n k i = ap (λ x. x % 2) (shr-shr n k i)

-- a bit of the same word, from this one on
further : (bit i : ℕ) → bit ≤ i → i / 64 ≡ bit / 64 → i % 64 ≡ bit % 64 + (i - bit)
further bit i from same = omega arith

clear-by : (words : List ℕ) (bit i word : ℕ) → bit / 64 < length words → get_or words (bit / 64) 0 ≡ word → bit ≤ i → i / 64 ≡ bit / 64
    → bit_at (word / 2 ^ (bit % 64)) (i - bit) ≡ 0 → IsClear words i
clear-by words bit i word inside is from same zero = (
  omega arith,
  ap (λ w. bit_at (get_or words w 0) (i % 64)) same ∙ ap (λ w. bit_at w (i % 64)) is ∙ ap (bit_at word) (further bit i from same)
      ∙ sym (shifted word (bit % 64) (i - bit)) ∙ zero,
)

-- where nothing is left of a word that is shifted, its bits from there on are clear
pub clear-rest : (words : List ℕ) (bit word : ℕ) → bit / 64 < length words → get_or words (bit / 64) 0 ≡ word → word / 2 ^ (bit % 64) ≡ 0
    → (i : ℕ) → bit ≤ i → i / 64 ≡ bit / 64 → IsClear words i
clear-rest words bit word inside is none i from same =
    clear-by words bit i word inside is from same (ap (λ w. bit_at w (i - bit)) none ∙ bit_at-zero (i - bit))

-- the first bit that is set in what is left of a word
pub record FirstLeft (words : List ℕ) (bit word : ℕ) : Type 0 where
  pub few : trailing_zeros w64 (word / 2 ^ (bit % 64)) < 64
  pub clear : (i : ℕ) → bit ≤ i → i < bit + trailing_zeros w64 (word / 2 ^ (bit % 64)) → IsClear words i

pub first-left : (words : List ℕ) (bit word : ℕ) → bit / 64 < length words → get_or words (bit / 64) 0 ≡ word → word < 2 ^ 64 → word / 2 ^ (bit % 64) ≢ 0 → FirstLeft words bit word
first-left words bit word inside is fits some =
    let rest : ℕ = word / 2 ^ (bit % 64) in
    let low : rest ≤ word = shr_le word (bit % 64) in
    let first = bit_at-trailing_zeros w64 rest (omega arith) (omega arith) in
    let t : ℕ = trailing_zeros w64 rest in
    let there : bit_at word (bit % 64 + t) ≡ 1 = sym (shifted word (bit % 64) t) ∙ first.1 in
    let within : bit % 64 + t < 64 =
    elim (low_or (bit % 64 + t)) [
      | inl l ↦ l
      | inr h ↦ let none : bit_at word (bit % 64 + t) ≡ 0 = bit_at_above word 64 (bit % 64 + t) fits h in absurd (omega (arith, none, there))
    ] in
    record {
      few = first.0;
      clear = λ i from before.
          let same : i / 64 ≡ bit / 64 = omega (arith, within, before, from) in
          clear-by words bit i word inside is from same (first.2 (i - bit) (omega arith));
    }
  where
    low_or : (n : ℕ) → (n < 64) ⊎ (64 ≤ n)
    low_or n = elim (cases_lt n 64) [ inl l ↦ inl l | inr g ↦ inr (omega arith) ]

-- a bit's mask
mask : (b : ℕ) → b < 64 → 1 * 2 ^ b % 18446744073709551616 ≡ 2 ^ b
mask b small =
    let below : 2 ^ b < 2 ^ 64 = pow-lt small in
    let one : 1 * 2 ^ b ≡ 2 ^ b = omega arith in
    ap (λ m. m % 18446744073709551616) one ∙ mod-eq_of_lt {n = 2 ^ b} {m = 18446744073709551616} below

-- a bit in a word that was changed, or in another one
pub word-changed : (words : List ℕ) (w new i : ℕ) → w < length words → IsClear (set words w new) i
    → ((i / 64 ≡ w) × (bit_at new (i % 64) ≡ 0)) ⊎ ((i / 64 ≢ w) × IsClear words i)
word-changed words w new i inside h =
    elim (cases_eq (i / 64) w) [
      | inl e ↦ inl (e, sym (ap (λ v. bit_at v (i % 64)) (ap (λ n. get_or (set words w new) n 0) e ∙ get_or-set_same words w new 0 inside)) ∙ h.1)
      | inr d ↦ inr (d, (subst (λ (n : ℕ). i / 64 < n) (length-set words w new) h.0, sym (ap (λ v. bit_at v (i % 64)) (get_or-set_other words w (i / 64) new 0 d)) ∙ h.1))
    ]

same_bit : (bit i : ℕ) → i / 64 ≡ bit / 64 → i % 64 ≡ bit % 64 → i ≡ bit
same_bit bit i e f = omega arith

-- a bit that is set
pub set-clear : (words : List ℕ) (bit word i : ℕ) → bit / 64 < length words → get_or words (bit / 64) 0 ≡ word
    → IsClear (set words (bit / 64) (bit_or word (1 * 2 ^ (bit % 64) % 18446744073709551616))) i → IsClear words i × (i ≢ bit)
set-clear words bit word i inside is h =
    let m : ℕ = 1 * 2 ^ (bit % 64) % 18446744073709551616 in
    let is_mask : m ≡ 2 ^ (bit % 64) = mask (bit % 64) (omega arith) in
    elim (word-changed words (bit / 64) (bit_or word m) i inside h) [
      | inr o ↦ (o.1, λ e. o.0 (ap (λ n. n / 64) e))
      | inl s ↦
          let both : max (bit_at word (i % 64)) (bit_at m (i % 64)) ≡ 0 = sym (bit_at_or word m (i % 64)) ∙ s.1 in (
            (omega (arith, s.0), ap (λ w. bit_at (get_or words w 0) (i % 64)) s.0 ∙ ap (λ w. bit_at w (i % 64)) is ∙ omega (arith, both)),
            λ e. let one : bit_at m (i % 64) ≡ 1 = ap (λ n. bit_at m (n % 64)) e ∙ ap (λ w. bit_at w (bit % 64)) is_mask ∙ bit_at-pow_same (bit % 64) in absurd (omega (arith, both, one)),
          )
    ]

-- a bit that is cleared
pub clear-clear : (words : List ℕ) (bit word i : ℕ) → bit / 64 < length words → get_or words (bit / 64) 0 ≡ word
    → IsClear (set words (bit / 64) (bit_and word (18446744073709551615 - 1 * 2 ^ (bit % 64) % 18446744073709551616))) i → IsClear words i ⊎ (i ≡ bit)
clear-clear words bit word i inside is h =
    let m : ℕ = 1 * 2 ^ (bit % 64) % 18446744073709551616 in
    let is_mask : m ≡ 2 ^ (bit % 64) = mask (bit % 64) (omega arith) in
    elim (word-changed words (bit / 64) (bit_and word (18446744073709551615 - m)) i inside h) [
      | inr o ↦ inl o.1
      | inl s ↦ elim (cases_eq (i % 64) (bit % 64)) [
        | inl e ↦ inr (same_bit bit i s.0 e)
        | inr d ↦
            let both : min (bit_at word (i % 64)) (bit_at (18446744073709551615 - m) (i % 64)) ≡ 0 = sym (bit_at_and word (18446744073709551615 - m) (i % 64)) ∙ s.1 in
            let other : bit_at m (i % 64) ≡ 0 = ap (λ w. bit_at w (i % 64)) is_mask ∙ bit_at-pow_other (bit % 64) (i % 64) d in
            let turned : bit_at (18446744073709551615 - m) (i % 64) ≡ 1 - bit_at m (i % 64) = bit_at_not w64 m (i % 64) (omega arith) (omega arith) in
            let small : bit_at word (i % 64) < 2 = bit_at-lt word (i % 64) in
            inl (omega (arith, s.0), ap (λ w. bit_at (get_or words w 0) (i % 64)) s.0 ∙ ap (λ w. bit_at w (i % 64)) is ∙ omega (arith, both, other, turned, small))
      ]
    ]

-- a word whose bits are all set comes last
pub pushed-clear : (words : List ℕ) (i : ℕ) → IsClear (words ++ 18446744073709551615 ∷ []) i → IsClear words i
pushed-clear words i h =
    let long : length (words ++ 18446744073709551615 ∷ []) ≡ length words + 1 = length-append words (18446744073709551615 ∷ []) in
    elim (cases_lt (i / 64) (length words)) [
      | inl l ↦ (l, sym (ap (λ v. bit_at v (i % 64)) (get_or-append words (18446744073709551615 ∷ []) 0 (i / 64) l)) ∙ h.1)
      | inr g ↦
          let last : i / 64 ≡ length words = omega (arith, long, h.0) in
          let one : bit_at (get_or (words ++ 18446744073709551615 ∷ []) (i / 64) 0) (i % 64) ≡ 1 =
          ap (λ v. bit_at v (i % 64)) (ap (λ n. get_or (words ++ 18446744073709551615 ∷ []) n 0) last ∙ get_or-append_seam words 18446744073709551615 [] 0) ∙ bit_at_ones 64 (i % 64) (omega arith) in
          absurd (omega (arith, one, h.1))
    ]

pub pushed-same : (words : List ℕ) (n w : ℕ) → w < length words → get_or (words ++ n ∷ []) w 0 ≡ get_or words w 0
pushed-same words n w inside = get_or-append words (n ∷ []) 0 w inside
