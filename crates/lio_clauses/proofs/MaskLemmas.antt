-- The principals of clauses as they are written, and of their masks.
use Rattle.std.proofs.Common.{◌≡◌, ◌≢◌, ℕ, ◌<◌, ◌^◌, ◌*◌, ◌%◌, bit_or, Bool, true, false, cond, ◌&&◌, ◌⊎◌, inl, inr, List, [], ◌∷◌, map, length, Ok, Err, nat_lt, max, refl, sym, ap, ◌∙◌, arith, lt-ltb, ltb-true, ltb-false}
use Rattle.std.specs.Int.{bit_at}
use Rattle.std.proofs.Math.Nat.{mod-eq_of_lt}
use Rattle.std.proofs.Math.Pow.{pow-lt}
use Rattle.std.proofs.lemmas.Nat.{or_comm}
use Rattle.std.specs.List.{list_any, All}
use Rattle.std.proofs.lemmas.Nat.Bits.{same_from_bits, bit_at_or, bit_at-pow_same, bit_at-pow_other, bit_at-zero, bit_at-lt, bit_at_above}
use Rattle.lio_clauses.specs.declared.faults.TextFault.TheVariants.{Wide}
use Rattle.lio_clauses.specs.Principals.{principals}
use Rattle.lio_clauses.specs.Satisfaction.{sat}
use Rattle.lio_clauses.specs.Canonical.{canonical, IsCanonical}
use Rattle.lio_clauses.specs.Implication.{named}
use Rattle.lio_clauses.specs.FormulaText.{narrow}
use Rattle.lio_clauses.specs.Cursor.{mask_of}
use Rattle.lio_clauses.proofs.Members.{In, In-map, All-In, any_by, any_some, same_tests}
use Rattle.lio_clauses.proofs.ClauseBits.{principals-parts, principals-In, principals-clauses}
use Rattle.lio_clauses.proofs.Implied.{named-parts}
use Rattle.lio_clauses.proofs.Minimal.{IsCanonical-canonical_of, canonical-unique}
use Rattle.lio_clauses.proofs.Forms.{Grows-sat, sat-canonical, IsCanonical-canonical}

same_number : (m n : ℕ) → (m ≡ n) ⊎ (m ≢ n)
same_number m n = grind arith

-- bit n of a mask is set exactly where the clause has principal n
bit_of-In : (c : List ℕ) (n : ℕ) → In n c → bit_at (mask_of c) n ≡ 1
bit_of-In [] n h = absurd h
bit_of-In (m ∷ c) n (inl e) =
    let own : bit_at (2 ^ m) n ≡ 1 = ap (bit_at (2 ^ m)) e ∙ bit_at-pow_same m in
    bit_at_or (2 ^ m) (mask_of c) n ∙ ap (λ b. max b (bit_at (mask_of c) n)) own ∙ at_most_one (bit_at (mask_of c) n) (bit_at-lt (mask_of c) n)
  where
    at_most_one : (b : ℕ) → b < 2 → max 1 b ≡ 1
    at_most_one b h = omega arith
bit_of-In (m ∷ c) n (inr h) =
    bit_at_or (2 ^ m) (mask_of c) n ∙ ap (λ b. max (bit_at (2 ^ m) n) b) (bit_of-In c n h) ∙ at_most_one (bit_at (2 ^ m) n) (bit_at-lt (2 ^ m) n)
  where
    at_most_one : (b : ℕ) → b < 2 → max b 1 ≡ 1
    at_most_one b h = omega arith

In-bit_of : (c : List ℕ) (n : ℕ) → bit_at (mask_of c) n ≡ 1 → In n c
In-bit_of [] n h = absurd (nothing (bit_at 0 n) (bit_at-zero n) h)
  where
    nothing : (b : ℕ) → b ≡ 0 → b ≡ 1 → ⊥
    nothing b e f = omega arith
In-bit_of (m ∷ c) n h =
    elim (same_number n m) [
      | inl e ↦ inl e
      | inr other ↦ inr (In-bit_of c n (of_max _ (bit_at (mask_of c) n) (bit_at_or (2 ^ m) (mask_of c) n ∙ ap (λ b. max b (bit_at (mask_of c) n)) (bit_at-pow_other m n other)) h))
    ]
  where
    of_max : (a b : ℕ) → a ≡ max 0 b → a ≡ 1 → b ≡ 1
    of_max a b e f = omega arith

-- a clause whose mask has 64 bits has principals below 64
small_principal : (c : List ℕ) (n : ℕ) → mask_of c < 2 ^ 64 → In n c → n < 64
small_principal c n fits h = by (nat_lt n 64) refl
  where
    apart : (b : ℕ) → b ≡ 0 → b ≡ 1 → ⊥
    apart b e f = omega arith

    by : (b : Bool) → nat_lt n 64 ≡ b → n < 64
    by true e = ltb-true n 64 e
    by false e = absurd (apart (bit_at (mask_of c) n) (bit_at_above (mask_of c) 64 n fits (ltb-false n 64 e)) (bit_of-In c n h))

-- a mask has the principals of its clause
any-principals : (P : ℕ → Bool) (c : List ℕ) → mask_of c < 2 ^ 64 → list_any P (principals (mask_of c)) ≡ list_any P c
any-principals P c fits =
    same_tests (list_any P (principals (mask_of c))) (list_any P c)
    (λ t. let r = any_some P (principals (mask_of c)) t in any_by P c r.0 (In-bit_of c r.0 (principals-parts (mask_of c) r.0 r.1.0).1) r.1.1)
    (λ t. let r = any_some P c t in any_by P (principals (mask_of c)) r.0 (principals-In (mask_of c) r.0 (small_principal c r.0 fits r.1.0) (bit_of-In c r.0 r.1.0)) r.1.1)

-- so the same sets satisfy both
sat-masks : (P : ℕ → Bool) (A : List (List ℕ)) → ((c : List ℕ) → In c A → mask_of c < 2 ^ 64) → sat P (map principals (map mask_of A)) ≡ sat P A
sat-masks P [] fits = refl
sat-masks P (c ∷ A) fits =
    ap (λ b. b && sat P (map principals (map mask_of A))) (any-principals P c (fits c (inl refl))) ∙ ap (λ b. list_any P c && b) (sat-masks P A (λ d h. fits d (inr h)))

pub IsCanonical-written : (A : List (List ℕ)) → ((c : List ℕ) → In c A → (n : ℕ) → In n c → n < 64) → IsCanonical (canonical A)
unfolding canonical
IsCanonical-written A small = IsCanonical-canonical_of (named A) (λ who. sat who A) (Grows-sat A) (λ n h. let p = named-parts A n h in lt-ltb n 64 (small p.0 p.1.0 n p.1.1))

-- and they have one canonical form
pub canonical-masks : (A : List (List ℕ)) → All (λ clause. clause < 2 ^ 64) (map mask_of A) → canonical (map principals (map mask_of A)) ≡ canonical A
canonical-masks A fits =
    let each : (c : List ℕ) → In c A → mask_of c < 2 ^ 64 = λ c h. All-In (λ clause. clause < 2 ^ 64) (map mask_of A) fits (mask_of c) (In-map mask_of c A h) in
    canonical-unique (canonical (map principals (map mask_of A))) (canonical A) (IsCanonical-canonical (map principals (map mask_of A)) (principals-clauses (map mask_of A)))
    (IsCanonical-written A (λ c h n k. small_principal c n (each c h) k))
    (λ P. sat-canonical P (map principals (map mask_of A)) ∙ sat-masks P A each ∙ sym (sat-canonical P A))

-- and it is the one or the other of them that is wide
pub narrow-masks : (A : List (List ℕ)) → All (λ clause. clause < 2 ^ 64) (map mask_of A) → narrow (map principals (map mask_of A)) ≡ narrow A
narrow-masks A fits = ap (λ C. cond (nat_lt 64 (length C)) (Err Wide) (Ok C)) (canonical-masks A fits)

-- a principal's own mask, and the mask of one more

pub pow_shift : (n : ℕ) → n < 64 → 1 * 2 ^ n % 18446744073709551616 ≡ 2 ^ n
pow_shift n small =
    let below : 2 ^ n < 2 ^ 64 = pow-lt small in
    let one : 1 * 2 ^ n ≡ 2 ^ n = omega arith in
    ap (λ m. m % 18446744073709551616) one ∙ mod-eq_of_lt {n = 2 ^ n} {m = 18446744073709551616} below

pub or_nothing : (a : ℕ) → bit_or a 0 ≡ a
or_nothing a = or_comm a 0

greatest : (x y z xy yz left right : ℕ) → xy ≡ max x y → left ≡ max xy z → yz ≡ max y z → right ≡ max x yz → left ≡ right
greatest x y z xy yz left right a b c d = omega arith

pub or_together : (a b c : ℕ) → bit_or (bit_or a b) c ≡ bit_or a (bit_or b c)
or_together a b c = same_from_bits _ _ (λ i.
    greatest (bit_at a i) (bit_at b i) (bit_at c i) _ _ _ _ (bit_at_or a b i) (bit_at_or (bit_or a b) c i) (bit_at_or b c i) (bit_at_or a (bit_or b c) i))
