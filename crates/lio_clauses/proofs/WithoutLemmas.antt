-- A formula without the clauses that a power implies: it is canonical where the formula is, and with the power it says what the formula says.
use Rattle.std.proofs.Common.{◌≡◌, ℕ, ◌<◌, ◌≤◌, ◌^◌, Bool, true, false, cond, not, ◌&&◌, inl, inr, List, [], ◌∷◌, map, length, All, refl, sym, ◌∙◌, ap, subst, arith}
use Rattle.std.specs.List.{filter}
use Rattle.std.proofs.lemmas.Bool.{cases_Bool, not_from_false}
use Rattle.lio_clauses.specs.Principals.{principals}
use Rattle.lio_clauses.specs.Implication.{implies}
use Rattle.lio_clauses.specs.Canonical.{is_clause, IsCanonical}
use Rattle.lio_clauses.specs.Without.{without}
use Rattle.lio_clauses.specs.Bits.{IsFormula, covers}
use Rattle.lio_clauses.specs.Laws.{WithoutIsCanonical, WithoutIsImplied, WithoutIsMadeUp, WithoutIsShorter, WithoutIsNamed}
use Rattle.lio_clauses.proofs.Members.{In, In-filter, In-filter_parts, all_at, all_by, All-In, In-All, Contains-from_In, In-from_Contains}
use Rattle.lio_clauses.proofs.Orders.{in_order-filter}
use Rattle.lio_clauses.proofs.Subsets.{within, within-itself, within-trans, same_rising, IsProperSubset-within, IsProperSubset-by, IsProperSubset-not_back}
use Rattle.lio_clauses.proofs.Implied.{sat-one_parts, implies-Implies, Implies-implies, Implies-clause, clause-Implies}
use Rattle.lio_clauses.proofs.Minimal.{clause-rising}
use Rattle.lio_clauses.proofs.Forms.{canonical-itself, canonical-only}
use Rattle.lio_clauses.proofs.ClauseBits.{covers-implies}

-- some clauses of a canonical formula are a canonical formula
pub IsCanonical-filter : (p : List ℕ → Bool) (A : List (List ℕ)) → IsCanonical A → IsCanonical (filter p A)
IsCanonical-filter p A a =
    let F : List (List ℕ) = filter p A in
    record {
      clauses = all_by is_clause F (λ c m. all_at is_clause A a.clauses c (In-filter_parts p c A m).0);
      ordered = in_order-filter _ p A a.ordered;
      exact = λ c k. (
        λ m.
            let here : In c F = In-from_Contains c F m in
            let Q : List (List ℕ) → Type 0 = λ v. In c v in
            let there : In c A = (In-filter_parts p c A here).0 in
            record {
              implied = clause-Implies F c c here (within-itself c);
              minimal = λ d s i.
                  let r = Implies-clause F d i in
                  let e : r.0 ≡ c =
                  canonical-only A a.clauses c (subst Q (sym (canonical-itself A a)) there) r.0 (In-filter_parts p r.0 A r.1.0).0
                  (within-trans r.0 d c r.1.1 (IsProperSubset-within d c s))
                  in
                  let P : List ℕ → Type 0 = λ v. within v d ≡ true in
                  IsProperSubset-not_back d c s (subst P e r.1.1);
            },
        λ l.
            let r = Implies-clause F c l.implied in
            let rises = clause-rising r.0 (all_at is_clause A a.clauses r.0 (In-filter_parts p r.0 A r.1.0).0) in
            let P : List ℕ → Type 0 = λ v. In v F in
            Contains-from_In c F (elim (cases_Bool (within c r.0)) [
              | inl t ↦ subst P (same_rising r.0 c rises (clause-rising c k) r.1.1 t) r.1.0
              | inr f ↦ absurd (l.minimal r.0 (IsProperSubset-by r.0 c r.1.1 f) (clause-Implies F r.0 r.0 r.1.0 (within-itself r.0)))
            ]),
      );
    }

pub filter-length : {X : Type 0} (p : X → Bool) (xs : List X) → length (filter p xs) ≤ length xs
filter-length p [] = omega arith
filter-length {X} p (x ∷ xs) =
    let rest : length (filter p xs) ≤ length xs = filter-length p xs in
    elim (p x) as (λ b. length (cond b (x ∷ filter p xs) (filter p xs)) ≤ length (x ∷ xs)) [ true ↦ omega arith | false ↦ omega arith ]

-- ---- the laws

pub without_is_canonical : WithoutIsCanonical
unfolding without
without_is_canonical A P a = IsCanonical-filter (λ c. not (implies P (c ∷ []))) A a

pub without_is_implied : WithoutIsImplied
unfolding without
without_is_implied A P =
    Implies-implies A (without A P) (λ who s. all_by _ (without A P) (λ c m. all_at _ A s c (In-filter_parts (λ c. not (implies P (c ∷ []))) c A m).0))

pub without_is_made_up : WithoutIsMadeUp
unfolding without
without_is_made_up A P who s t =
    all_by _ A (λ c m. elim (cases_Bool (implies P (c ∷ []))) [
      | inl i ↦ sat-one_parts who c (implies-Implies P (c ∷ []) i who s)
      | inr n ↦ all_at _ (without A P) t c (In-filter (λ c. not (implies P (c ∷ []))) c A m (not_from_false (implies P (c ∷ [])) n))
    ])

pub without_is_shorter : WithoutIsShorter
unfolding without
without_is_shorter A P = filter-length (λ c. not (implies P (c ∷ []))) A

pub without_is_named : WithoutIsNamed
unfolding without
without_is_named names A P h =
    let Q : List ℕ → Type 0 = λ c. All (λ n. n < length names) c in
    In-All Q (without A P) (λ c m. All-In Q A h c (In-filter_parts (λ c. not (implies P (c ∷ []))) c A m).0)

-- ---- clauses of 64 bits

filter-map : {X Y : Type 0} (f : X → Y) (p : X → Bool) (q : Y → Bool) (xs : List X) → ((x : X) → In x xs → p x ≡ q (f x)) → map f (filter p xs) ≡ filter q (map f xs)
filter-map f p q [] h = refl
filter-map {X} {Y} f p q (x ∷ xs) h =
    let e : map f (filter p xs) ≡ filter q (map f xs) = filter-map f p q xs (λ x m. h x (inr m)) in
    let step : (b : Bool) → map f (cond b (x ∷ filter p xs) (filter p xs)) ≡ cond b (f x ∷ filter q (map f xs)) (filter q (map f xs)) =
    λ b. elim b as (λ b. map f (cond b (x ∷ filter p xs) (filter p xs)) ≡ cond b (f x ∷ filter q (map f xs)) (filter q (map f xs))) [ true ↦ ap (λ v. f x ∷ v) e | false ↦ e ]
    in
    step (p x) ∙ ap (λ b. cond b (f x ∷ filter q (map f xs)) (filter q (map f xs))) (h x (inl refl))

and-true : (b : Bool) → b ≡ (b && true)
and-true true = refl
and-true false = refl

-- the clauses of 64 bits that contain none of a power's are the formula without it
pub uncovered-without : (ks ms : List ℕ) → All (λ k. k < 2 ^ 64) ks → All (λ m. m < 2 ^ 64) ms
    → map principals (filter (λ m. not (covers ks m)) ms) ≡ without (map principals ms) (map principals ks)
unfolding without
uncovered-without ks ms f g =
    filter-map principals (λ m. not (covers ks m)) (λ c. not (implies (map principals ks) (c ∷ []))) ms (λ m i.
    ap not (and-true (covers ks m)
    ∙ covers-implies ks (m ∷ []) (All-In (λ k. k < 2 ^ 64) ks f) (λ d n. elim n [
      | inl e ↦ let P : ℕ → Type 0 = λ v. v < 2 ^ 64 in subst P (sym e) (All-In (λ m. m < 2 ^ 64) ms g m i)
      | inr z ↦ absurd z
    ])))

pub uncovered-formula : (ks ms : List ℕ) → All (λ k. k < 2 ^ 64) ks → All (λ m. m < 2 ^ 64) ms → IsCanonical (map principals ms) → length ms ≤ 64
    → IsFormula (filter (λ m. not (covers ks m)) ms)
uncovered-formula ks ms f g a few =
    let kept : List ℕ = filter (λ m. not (covers ks m)) ms in
    let short : length kept ≤ length ms = filter-length (λ m. not (covers ks m)) ms in
    record {
      fits = In-All (λ m. m < 2 ^ 64) kept (λ m i. All-In (λ m. m < 2 ^ 64) ms g m (In-filter_parts (λ m. not (covers ks m)) m ms i).0);
      canonical = subst IsCanonical (sym (uncovered-without ks ms f g)) (without_is_canonical (map principals ms) (map principals ks) a);
      few = omega arith;
    }
