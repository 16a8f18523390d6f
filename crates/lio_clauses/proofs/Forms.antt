-- The canonical form, conjunction and disjunction: which sets satisfy them, that they are canonical, and their clauses.
use Rattle.std.proofs.Common.{◌≡◌, ℕ, Bool, true, ◌&&◌, ◌||◌, inl, inr, List, [], ◌∷◌, ◌++◌, refl, sym, ◌∙◌, subst}
use Rattle.std.specs.Prelude.{nat_lt}
use Rattle.std.specs.List.{list_all}
use Rattle.std.proofs.lemmas.Bool.{and_parts, and_from, or_cases, or_left, or_right, cases_Bool}
use Rattle.lio_clauses.specs.Satisfaction.{sat}
use Rattle.lio_clauses.specs.Implication.{named}
use Rattle.lio_clauses.specs.Canonical.{in_order, is_before, is_clause, IsCanonical, canonical_of, canonical, and, or}
use Rattle.lio_clauses.proofs.Members.{In, In-append_cases, all_at, all_by}
use Rattle.lio_clauses.proofs.Orders.{same_in_order, is_before-asym}
use Rattle.lio_clauses.proofs.Subsets.{within, within-itself, within-trans, same_rising, IsProperSubset-within, IsProperSubset-by, IsProperSubset-not_back}
use Rattle.lio_clauses.proofs.Implied.{named-rising, named-parts, named-append_left, named-append_right, sat-grows, sat-append, Implies-clause, clause-Implies}
use Rattle.lio_clauses.proofs.Minimal.{Grows, IsLeastMet, Implies-meets, meets-Implies, sat-canonical_of, IsCanonical-canonical_of, canonical_of-least, canonical_of-rising, canonical_of-In, canonical_of-ordered, clause-rising, clause-below, canonical-unique}

-- each clause of a formula is one
abbrev pub all_clauses : List (List ℕ) → Bool
all_clauses A = list_all is_clause A

pub named-small : (A : List (List ℕ)) → all_clauses A ≡ true → (n : ℕ) → In n (named A) → nat_lt n 64 ≡ true
named-small A h n m = let r = named-parts A n m in clause-below r.0 (all_at is_clause A h r.0 r.1.0) n r.1.1

pub all_clauses-append : (A B : List (List ℕ)) → all_clauses A ≡ true → all_clauses B ≡ true → all_clauses (A ++ B) ≡ true
all_clauses-append A B h k =
    all_by is_clause (A ++ B) (λ c m. elim (In-append_cases c A B m) [ inl a ↦ all_at is_clause A h c a | inr b ↦ all_at is_clause B k c b ])

pub Grows-sat : (A : List (List ℕ)) → Grows (named A) (λ who. sat who A)
Grows-sat A = record { rising = named-rising A; grows = sat-grows A }

pub Grows-and : (A B : List (List ℕ)) → Grows (named (A ++ B)) (λ who. sat who A && sat who B)
Grows-and A B = record {
  rising = named-rising (A ++ B);
  grows = λ P Q f h.
      let r = and_parts (sat P A) (sat P B) h in
      and_from (sat Q A) (sat Q B)
      (sat-grows A P Q (λ n m. f n (named-append_left A B n m)) r.0)
      (sat-grows B P Q (λ n m. f n (named-append_right A B n m)) r.1);
}

pub Grows-or : (A B : List (List ℕ)) → Grows (named (A ++ B)) (λ who. sat who A || sat who B)
Grows-or A B = record {
  rising = named-rising (A ++ B);
  grows = λ P Q f h.
      elim (or_cases (sat P A) (sat P B) h) [
        | inl t ↦ or_left (sat Q A) (sat Q B) (sat-grows A P Q (λ n m. f n (named-append_left A B n m)) t)
        | inr t ↦ or_right (sat Q A) (sat Q B) (sat-grows B P Q (λ n m. f n (named-append_right A B n m)) t)
      ];
}

-- which sets satisfy them

pub sat-canonical : (P : ℕ → Bool) (A : List (List ℕ)) → sat P (canonical A) ≡ sat P A
unfolding canonical
sat-canonical P A = sat-canonical_of (named A) (λ who. sat who A) (Grows-sat A) P

pub sat-and : (P : ℕ → Bool) (A B : List (List ℕ)) → sat P (and A B) ≡ (sat P A && sat P B)
unfolding and
sat-and P A B = sat-canonical_of (named (A ++ B)) (λ who. sat who A && sat who B) (Grows-and A B) P

pub sat-or : (P : ℕ → Bool) (A B : List (List ℕ)) → sat P (or A B) ≡ (sat P A || sat P B)
unfolding or
sat-or P A B = sat-canonical_of (named (A ++ B)) (λ who. sat who A || sat who B) (Grows-or A B) P

-- they are canonical

pub IsCanonical-canonical : (A : List (List ℕ)) → all_clauses A ≡ true → IsCanonical (canonical A)
unfolding canonical
IsCanonical-canonical A h = IsCanonical-canonical_of (named A) (λ who. sat who A) (Grows-sat A) (named-small A h)

pub IsCanonical-and : (A B : List (List ℕ)) → all_clauses A ≡ true → all_clauses B ≡ true → IsCanonical (and A B)
unfolding and
IsCanonical-and A B h k = IsCanonical-canonical_of (named (A ++ B)) (λ who. sat who A && sat who B) (Grows-and A B) (named-small (A ++ B) (all_clauses-append A B h k))

pub IsCanonical-or : (A B : List (List ℕ)) → all_clauses A ≡ true → all_clauses B ≡ true → IsCanonical (or A B)
unfolding or
IsCanonical-or A B h k = IsCanonical-canonical_of (named (A ++ B)) (λ who. sat who A || sat who B) (Grows-or A B) (named-small (A ++ B) (all_clauses-append A B h k))

-- the conjunction is the canonical form of the clauses of both
pub and-is : (A B : List (List ℕ)) → all_clauses A ≡ true → all_clauses B ≡ true → and A B ≡ canonical (A ++ B)
and-is A B h k =
    canonical-unique (and A B) (canonical (A ++ B)) (IsCanonical-and A B h k) (IsCanonical-canonical (A ++ B) (all_clauses-append A B h k))
    (λ P. sat-and P A B ∙ sym (sat-append P A B) ∙ sym (sat-canonical P (A ++ B)))

-- a formula that the same sets satisfy as one of two has the disjunction as its canonical form
pub or-is : (A B U : List (List ℕ)) → all_clauses A ≡ true → all_clauses B ≡ true → all_clauses U ≡ true
    → ((P : ℕ → Bool) → sat P U ≡ (sat P A || sat P B)) → or A B ≡ canonical U
or-is A B U h k u e =
    canonical-unique (or A B) (canonical U) (IsCanonical-or A B h k) (IsCanonical-canonical U u)
    (λ P. sat-or P A B ∙ sym (e P) ∙ sym (sat-canonical P U))

-- a canonical formula is its own canonical form
pub canonical-itself : (A : List (List ℕ)) → IsCanonical A → canonical A ≡ A
canonical-itself A a = canonical-unique (canonical A) A (IsCanonical-canonical A a.clauses) a (λ P. sat-canonical P A)

-- the clauses of the canonical form are the minimal ones of the formula

pub canonical-only : (A : List (List ℕ)) → all_clauses A ≡ true → (c : List ℕ) → In c (canonical A) → (d : List ℕ) → In d A → within d c ≡ true → d ≡ c
unfolding canonical
canonical-only A h c m d n w =
    let passes : (ℕ → Bool) → Bool = λ who. sat who A in
    let l : IsLeastMet passes c = canonical_of-least (named A) passes (Grows-sat A) c m in
    let rises : in_order nat_lt c ≡ true = canonical_of-rising (named A) passes (Grows-sat A) c m in
    elim (cases_Bool (within c d)) [
      | inl t ↦ same_rising d c (clause-rising d (all_at is_clause A h d n)) rises w t
      | inr f ↦ absurd (l.1 d (IsProperSubset-by d c w f) (Implies-meets A passes (λ P. refl) d (clause-Implies A d d n (itself d))))
    ]
  where
    itself : (d : List ℕ) → within d d ≡ true
    itself d = within-itself d

pub canonical-among : (A : List (List ℕ)) → all_clauses A ≡ true → (c : List ℕ) → In c (canonical A) → In c A
unfolding canonical
canonical-among A h c m =
    let passes : (ℕ → Bool) → Bool = λ who. sat who A in
    let l : IsLeastMet passes c = canonical_of-least (named A) passes (Grows-sat A) c m in
    let r = Implies-clause A c (meets-Implies A passes (λ P. refl) c l.0) in
    let P : List ℕ → Type 0 = λ v. In v A in
    subst P (canonical-only A h c m r.0 r.1.0 r.1.1) r.1.0

pub canonical-minimal : (A : List (List ℕ)) → all_clauses A ≡ true → (c : List ℕ) → In c A → ((d : List ℕ) → In d A → within d c ≡ true → d ≡ c) → In c (canonical A)
unfolding canonical
canonical-minimal A h c m only =
    let passes : (ℕ → Bool) → Bool = λ who. sat who A in
    canonical_of-In (named A) passes (Grows-sat A) c (clause-rising c (all_at is_clause A h c m)) (
      Implies-meets A passes (λ P. refl) c (clause-Implies A c c m (within-itself c)),
      λ d p q.
          let r = Implies-clause A d (meets-Implies A passes (λ P. refl) d q) in
          let e : r.0 ≡ c = only r.0 r.1.0 (within-trans r.0 d c r.1.1 (IsProperSubset-within d c p)) in
          let P : List ℕ → Type 0 = λ v. within v d ≡ true in
          IsProperSubset-not_back d c p (subst P e r.1.1),
    )

pub canonical-ordered : (A : List (List ℕ)) → in_order is_before (canonical A) ≡ true
unfolding canonical
canonical-ordered A = canonical_of-ordered (named A) (λ who. sat who A) (Grows-sat A)

-- the formula of one clause is canonical
pub canonical-one : (c : List ℕ) → is_clause c ≡ true → canonical (c ∷ []) ≡ c ∷ []
canonical-one c k =
    let A : List (List ℕ) = c ∷ [] in
    let h : all_clauses A ≡ true = and_from (is_clause c) true k refl in
    let there : In c (canonical A) = canonical-minimal A h c (inl refl) (λ d m w. elim m [ inl e ↦ e | inr z ↦ absurd z ]) in
    same_in_order is_before is_before-asym (canonical A) A (canonical-ordered A) refl
    (λ d m. canonical-among A h d m)
    (λ d m. elim m [ inl e ↦ let P : List ℕ → Type 0 = λ v. In v (canonical A) in subst P (sym e) there | inr z ↦ absurd z ])

pub IsCanonical-one : (c : List ℕ) → is_clause c ≡ true → IsCanonical (c ∷ [])
IsCanonical-one c k =
    let P : List (List ℕ) → Type 0 = λ v. IsCanonical v in
    subst P (canonical-one c k) (IsCanonical-canonical (c ∷ []) (and_from (is_clause c) true k refl))

-- the empty formula is canonical
pub canonical-none : canonical [] ≡ []
unfolding canonical canonical_of
canonical-none = refl

pub IsCanonical-none : IsCanonical []
IsCanonical-none = let P : List (List ℕ) → Type 0 = λ v. IsCanonical v in subst P canonical-none (IsCanonical-canonical [] refl)
