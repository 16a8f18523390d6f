-- On the canonical text of formulas.
use Rattle.std.proofs.Common.{◌≡◌, ◌≢◌, ℕ, zero, suc, ◌<◌, ◌+◌, ◌^◌, ◌/◌, ◌==◌, bit_and, ◌*◌, ◌%◌, inl, inr, w64, get_or, take, slice_get, Some, ne_eqb, Bool, true, false, cond, if◌then◌else◌, List, [], ◌∷◌, ◌++◌, map, length, codes, refl, sym, ap, subst, ◌∙◌, arith, append_assoc, eq-eqb, true≢false}
use Rattle.std.specs.Int.{bit_at, trailing_zeros}
use Rattle.std.specs.List.{filter, All}
use Rattle.std.proofs.lemmas.List.{append-nil, map-append, take_more}
use Rattle.std.proofs.lemmas.List.Elements.{filter-append, Contains-get_or}
use Rattle.std.proofs.lemmas.Nat.Bits.{shr_and_one, bit_at-trailing_zeros}
use Rattle.std.proofs.Math.Pow.{pow-lt, pow_mono}
use Rattle.std.proofs.lemmas.Option.{get_or_from_slice_get}
use Rattle.std.proofs.Math.Seq.{take-append_seam}
use Rattle.lio_clauses.specs.Principals.{principals, numbers_below}
use Rattle.lio_clauses.proofs.Members.{In, All-In, In-map, In-from_Contains}
use Rattle.lio_clauses.proofs.ClauseBits.{principals-In, principals-parts, principals-pow, principals-same, principals-zero}
use Rattle.lio_clauses.proofs.MaskLemmas.{pow_shift}
use Rattle.lio_clauses.specs.FormulaPrint.{Extends, joined, name_of, clause_text, formula_text}

-- what is appended leaves what was there
pub Extends-refl : (xs : List ℕ) → Extends xs xs
Extends-refl xs = record { more = []; appended = sym (append-nil xs) }

pub Extends-by : (old new more : List ℕ) → new ≡ old ++ more → Extends old new
Extends-by old new more e = record { more = more; appended = e }

pub Extends-if : (ok : Bool) (old new more : List ℕ) → new ≡ (if ok then old ++ more else old) → Extends old new
Extends-if true old new more e = Extends-by old new more e
Extends-if false old new more e = Extends-by old new [] (e ∙ sym (append-nil old))

pub Extends-after : (old mid new more : List ℕ) → mid ≡ old ++ more → Extends mid new → Extends old new
Extends-after old mid new more e h = Extends-by old new (more ++ h.more) (h.appended ∙ ap (λ t. t ++ h.more) e ∙ append_assoc old more h.more)

pub take-Extends : (old new : List ℕ) (n : ℕ) → n ≡ length old → Extends old new → take n new ≡ old
take-Extends old new n e h = ap (λ n. take n new) e ∙ ap (take (length old)) h.appended ∙ take-append_seam old h.more

-- one more text after others, behind the sign
pub joined-push : (sign : List ℕ) (ts : List (List ℕ)) (t : List ℕ) (first : Bool) → (first ≡ true → ts ≡ []) → (first ≡ false → ts ≢ [])
    → joined sign (ts ++ t ∷ []) ≡ (joined sign ts ++ (if first then [] else sign)) ++ t
joined-push sign [] t true none some = refl
joined-push sign [] t false none some = absurd (some refl refl)
joined-push sign (u ∷ ts) t true none some = let wrong : u ∷ ts ≡ [] = none refl in cc
joined-push sign (u ∷ []) t false none some = refl
joined-push sign (u ∷ v ∷ ts) t false none some =
    ap (λ r. (u ++ sign) ++ r) (joined-push sign (v ∷ ts) t false (λ e. absurd (true≢false (sym e))) (λ e wrong. cc))
    ∙ sym (append_assoc (u ++ sign) (joined sign (v ∷ ts) ++ sign) t) ∙ ap (λ r. r ++ t) (sym (append_assoc (u ++ sign) (joined sign (v ∷ ts)) sign))

-- texts were printed with the sign between two, and whether the next is the first
pub record Printed (sign : List ℕ) (ts : List (List ℕ)) (first : Bool) (old new : List ℕ) : Type 0 where
  pub text : new ≡ old ++ joined sign ts
  pub none : first ≡ true → ts ≡ []
  pub some : first ≡ false → ts ≢ []

pub Printed-start : (sign old : List ℕ) → Printed sign [] true old old
Printed-start sign old = record { text = sym (append-nil old); none = λ e. refl; some = λ e. absurd (true≢false e) }

pub Printed-next : (sign t old mid signed new : List ℕ) (ts : List (List ℕ)) (first : Bool) → Printed sign ts first old mid → signed ≡ mid ++ (if first then [] else sign) → new ≡ signed ++ t
    → Printed sign (ts ++ t ∷ []) false old new
Printed-next sign t old mid signed new ts first p e f = record {
  text =
      f ∙ ap (λ r. r ++ t) (e ∙ ap (λ r. r ++ (if first then [] else sign)) p.text ∙ append_assoc old (joined sign ts) (if first then [] else sign))
      ∙ append_assoc old (joined sign ts ++ (if first then [] else sign)) t ∙ ap (λ r. old ++ r) (sym (joined-push sign ts t first p.none p.some));
  none = λ wrong. absurd (true≢false (sym wrong));
  some = λ _. not_empty ts;
}
  where
    not_empty : (ts : List (List ℕ)) → ts ++ t ∷ [] ≢ []
    not_empty [] e = cc
    not_empty (u ∷ ts) e = cc

next_number : (p : ℕ → Bool) (n : ℕ) → filter p (numbers_below (n + 1)) ≡ filter p (numbers_below n) ++ cond (p n) (n ∷ []) []
unfolding numbers_below
next_number p n = let one : n + 1 ≡ suc n = omega arith in ap (λ m. filter p (numbers_below m)) one ∙ filter-append p (numbers_below n) (n ∷ [])

-- the names of the principals below n are printed, and n is not one, or is the next
module _ (names : List (List ℕ)) (clause : ℕ) where
  abbrev pub names_below : ℕ → List (List ℕ)
  names_below n = map (name_of names) (filter (λ n. bit_at clause n == 1) (numbers_below n))

  more : (n : ℕ) (b : Bool) → (bit_at clause n == 1) ≡ b → names_below (n + 1) ≡ names_below n ++ map (name_of names) (cond b (n ∷ []) [])
  more n b e =
      ap (map (name_of names)) (next_number (λ n. bit_at clause n == 1) n ∙ ap (λ b. filter (λ n. bit_at clause n == 1) (numbers_below n) ++ cond b (n ∷ []) []) e)
      ∙ map-append (name_of names) (filter (λ n. bit_at clause n == 1) (numbers_below n)) (cond b (n ∷ []) [])

  names_below-out : (n : ℕ) → bit_and (clause / 2 ^ n) 1 ≢ 1 → names_below (n + 1) ≡ names_below n
  names_below-out n out = more n false (ne_eqb (bit_at clause n) 1 (λ e. out (shr_and_one clause n ∙ e))) ∙ append-nil (names_below n)

  names_below-in : (n : ℕ) → bit_and (clause / 2 ^ n) 1 ≡ 1 → names_below (n + 1) ≡ names_below n ++ name_of names n ∷ []
  names_below-in n set = more n true (eq-eqb (bit_at clause n) 1 (sym (shr_and_one clause n) ∙ set))

  pub names_below-start : names_below 0 ≡ []
  unfolding numbers_below
  names_below-start = refl

  pub names_below-all : names_below 64 ≡ map (name_of names) (principals clause)
  unfolding principals
  names_below-all = refl

  pub Printed-out : (sign old mid new : List ℕ) (n : ℕ) (first next : Bool) → bit_and (clause / 2 ^ n) 1 ≢ 1 → Printed sign (names_below n) first old mid → next ≡ first → new ≡ mid
      → Printed sign (names_below (n + 1)) next old new
  Printed-out sign old mid new n first next out p e f =
      subst (λ ts. Printed sign ts next old new) (sym (names_below-out n out)) (subst (λ t. Printed sign (names_below n) next old t) (sym f) (subst (λ b. Printed sign (names_below n) b old mid) (sym e) p))

  pub Printed-in : (sign name old mid signed more new : List ℕ) (n : ℕ) (first next : Bool) → bit_and (clause / 2 ^ n) 1 ≡ 1 → Printed sign (names_below n) first old mid
      → signed ≡ mid ++ (if first then [] else sign) → more ≡ signed ++ name → slice_get names n ≡ Some name → next ≡ false → new ≡ more → Printed sign (names_below (n + 1)) next old new
  Printed-in sign name old mid signed more new n first next set p e f at last g =
      let own : name_of names n ≡ name = get_or_from_slice_get names n name [] at in
      subst (λ ts. Printed sign ts next old new) (sym (names_below-in n set))
      (subst (λ b. Printed sign (names_below n ++ name_of names n ∷ []) b old new) (sym last)
      (Printed-next sign (name_of names n) old mid signed new (names_below n) first p e (g ∙ f ∙ ap (λ t. signed ++ t) (sym own))))

  -- and each of them is known
  pub known-in : (n : ℕ) → n < 64 → bit_and (clause / 2 ^ n) 1 ≡ 1 → All (λ n. n < length names) (principals clause) → n < length names
  known-in n below set known = All-In (λ n. n < length names) (principals clause) known n (principals-In clause n below (sym (shr_and_one clause n) ∙ set))

-- a clause of one principal

pub lone : (clause n : ℕ) → n < 64 → clause ≡ 1 * 2 ^ n % 18446744073709551616 → principals clause ≡ n ∷ []
lone clause n small e = ap principals (e ∙ pow_shift n small) ∙ principals-pow n small

pub lone-known : (names : List (List ℕ)) (clause n : ℕ) → principals clause ≡ n ∷ [] → All (λ n. n < length names) (principals clause) → n < length names
lone-known names clause n e known = subst (All (λ n. n < length names)) e known 0 0 (omega arith)

pub clause_text-lone : (names : List (List ℕ)) (clause n : ℕ) (name : List ℕ) → principals clause ≡ n ∷ [] → slice_get names n ≡ Some name → clause_text names (principals clause) ≡ name
clause_text-lone names clause n name e at = ap (clause_text names) e ∙ get_or_from_slice_get names n name [] at

-- and one of none or several
pub not_lone : (clause : ℕ) → clause < 2 ^ 64 → (trailing_zeros w64 clause < 64 → clause ≢ 1 * 2 ^ trailing_zeros w64 clause % 18446744073709551616) → (m : ℕ) → principals clause ≢ m ∷ []
not_lone clause fits other m e =
    let small : m < 64 = (principals-parts clause m (subst (In m) (sym e) (inl refl))).0 in
    let same : clause ≡ 2 ^ m = principals-same clause (2 ^ m) fits (pow-lt small) (e ∙ sym (principals-pow m small)) in
    let some : 0 < clause = subst (λ n. 0 < n) (sym same) (positive m) in
    let lowest = bit_at-trailing_zeros w64 clause some fits in
    let own : trailing_zeros w64 clause ≡ m = only m (trailing_zeros w64 clause) (subst (In (trailing_zeros w64 clause)) e (principals-In clause (trailing_zeros w64 clause) lowest.0 lowest.1)) in
    other lowest.0 (same ∙ ap (λ n. 2 ^ n) (sym own) ∙ sym (pow_shift (trailing_zeros w64 clause) lowest.0))
  where
    only : (m n : ℕ) → In n (m ∷ []) → n ≡ m
    only m n (inl e) = e
    only m n (inr h) = absurd h

    positive : (m : ℕ) → 0 < 2 ^ m
    positive m = pow_mono {i = zero} {j = m} (omega arith)

pub clause_text-several : (names : List (List ℕ)) (c : List ℕ) → ((m : ℕ) → c ≢ m ∷ []) → clause_text names c ≡ (codes "(" ++ joined (codes " \\/ ") (map (name_of names) c)) ++ codes ")"
clause_text-several names [] h = refl
clause_text-several names (m ∷ []) h = absurd (h m refl)
clause_text-several names (m ∷ n ∷ c) h = refl

pub appended-several : (names : List (List ℕ)) (clause : ℕ) (old opened named : List ℕ) → clause < 2 ^ 64
    → (trailing_zeros w64 clause < 64 → clause ≢ 1 * 2 ^ trailing_zeros w64 clause % 18446744073709551616)
    → opened ≡ old ++ codes "(" → named ≡ opened ++ joined (codes " \\/ ") (map (name_of names) (principals clause))
    → named ++ codes ")" ≡ old ++ clause_text names (principals clause)
appended-several names clause old opened named fits other begins middle =
    let inner : List ℕ = joined (codes " \\/ ") (map (name_of names) (principals clause)) in
    ap (λ t. t ++ codes ")") (middle ∙ ap (λ t. t ++ inner) begins ∙ append_assoc old (codes "(") inner)
    ∙ append_assoc old (codes "(" ++ inner) (codes ")")
    ∙ ap (λ t. old ++ t) (sym (clause_text-several names (principals clause) (not_lone clause fits other)))

-- a whole formula

module _ (names : List (List ℕ)) where
  -- the text of a clause of 64 bits
  abbrev pub mask_text : ℕ → List ℕ
  mask_text clause = clause_text names (principals clause)

  pub formula_text-False : (masks : List ℕ) (A : List (List ℕ)) → map principals masks ≡ A → length masks ≡ 1 → get_or masks 0 0 ≡ 0 → formula_text names A ≡ codes "False"
  formula_text-False [] A e one none = absurd (omega (arith, one))
  formula_text-False (m ∷ []) A e one none = ap (formula_text names) (sym e ∙ ap (λ c. c ∷ []) (ap principals none ∙ principals-zero))
  formula_text-False (m ∷ n ∷ masks) A e one none = absurd (omega (arith, one))

  one_clause : (c : List ℕ) → c ≢ [] → formula_text names (c ∷ []) ≡ clause_text names c
  one_clause [] h = absurd (h refl)
  one_clause (n ∷ c) h = refl

  more_clauses : (c d : List ℕ) (A : List (List ℕ)) → formula_text names (c ∷ d ∷ A) ≡ joined (codes " /\\ ") (map (clause_text names) (c ∷ d ∷ A))
  more_clauses [] d A = refl
  more_clauses (n ∷ c) d A = refl

  map_twice : (masks : List ℕ) → map (clause_text names) (map principals masks) ≡ map mask_text masks
  map_twice [] = refl
  map_twice (m ∷ masks) = ap (λ ts. mask_text m ∷ ts) (map_twice masks)

  pub formula_text-clauses : (masks : List ℕ) (A : List (List ℕ)) → map principals masks ≡ A → All (λ m. m < 2 ^ 64) masks → length masks ≢ 0 → (length masks ≡ 1 → get_or masks 0 0 ≢ 0)
      → formula_text names A ≡ joined (codes " /\\ ") (map mask_text masks)
  formula_text-clauses [] A e fits some not_false = absurd (some refl)
  formula_text-clauses (m ∷ []) A e fits some not_false =
      ap (formula_text names) (sym e) ∙ one_clause (principals m) (λ empty. not_false refl (principals-same m 0 (fits 0 0 (omega arith)) (omega arith) (empty ∙ sym principals-zero)))
  formula_text-clauses (m ∷ n ∷ masks) A e fits some not_false =
      ap (formula_text names) (sym e) ∙ more_clauses (principals m) (principals n) (map principals masks) ∙ ap (joined (codes " /\\ ")) (map_twice (m ∷ n ∷ masks))

  -- each clause's principals are known
  pub known-at : (masks : List ℕ) (A : List (List ℕ)) (place : ℕ) → map principals masks ≡ A → place < length masks → All (λ clause. All (λ n. n < length names) clause) A
      → All (λ n. n < length names) (principals (get_or masks place 0))
  known-at masks A place e within known =
      let clause : ℕ = get_or masks place 0 in
      All-In (λ c. All (λ n. n < length names) c) A known (principals clause) (subst (In (principals clause)) e (In-map principals clause masks (In-from_Contains clause masks (Contains-get_or masks place 0 within))))

  pub Printed-clause : (sign old mid signed new masks : List ℕ) (place : ℕ) → place < length masks → Printed sign (map mask_text (take place masks)) (place == 0) old mid
      → signed ≡ mid ++ (if place == 0 then [] else sign) → new ≡ signed ++ mask_text (get_or masks place 0) → Printed sign (map mask_text (take (place + 1) masks)) (place + 1 == 0) old new
  Printed-clause sign old mid signed new masks place within p e f =
      let more : map mask_text (take (place + 1) masks) ≡ map mask_text (take place masks) ++ mask_text (get_or masks place 0) ∷ [] =
      ap (map mask_text) (take_more masks place 0 within) ∙ map-append mask_text (take place masks) (get_or masks place 0 ∷ []) in
      let later : (place + 1 == 0) ≡ false = ne_eqb (place + 1) 0 (omega arith) in
      subst (λ ts. Printed sign ts (place + 1 == 0) old new) (sym more)
      (subst (λ b. Printed sign (map mask_text (take place masks) ++ mask_text (get_or masks place 0) ∷ []) b old new) (sym later)
      (Printed-next sign (mask_text (get_or masks place 0)) old mid signed new (map mask_text (take place masks)) (place == 0) p e f))
