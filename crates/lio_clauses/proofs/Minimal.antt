-- The canonical formula of a test on sets: it is canonical, satisfied by exactly the sets that pass, and the only such one.
use Rattle.std.proofs.Common.{◌≡◌, ℕ, suc, zero, ◌<◌, Bool, true, not, ◌&&◌, ◌||◌, ◌⊎◌, inl, inr, List, [], ◌∷◌, length, refl, sym, ◌∙◌, subst, arith}
use Rattle.std.specs.Prelude.{nat_lt, ◌==◌}
use Rattle.std.specs.List.{list_all, list_any, filter}
use Rattle.std.proofs.lemmas.Bool.{both_ways, and_parts, and_from, or_cases, or_left, or_right, not-true, not-false, not_from_false, cases_Bool, false_from_ne_true, eqb-true, eq-eqb}
use Rattle.lio_clauses.specs.Satisfaction.{sat, set_of}
use Rattle.lio_clauses.specs.Implication.{Implies, sublists}
use Rattle.lio_clauses.specs.Canonical.{in_order, is_before, is_clause, IsProperSubset, IsMinimalImplied, IsCanonical, proper_sublists, is_met, canonical_of}
use Rattle.lio_clauses.proofs.Members.{In, In-filter, In-filter_parts, all_at, all_by, all_fails, any_by, any_some, any_none, same_tests, Contains-from_In, In-from_Contains}
use Rattle.lio_clauses.proofs.Orders.{in_order-filter, same_in_order, is_before-asym}
use Rattle.lio_clauses.proofs.Subsets.{set_of-In, In-set_of, within, within-at, within-by, within-itself, within-trans, IsProperSubset-within}
use Rattle.lio_clauses.proofs.Sublists.{sublists-filter, sublists-members, sublists-rising, sublists-of_rising, sublists-ordered, proper_sublists-sublists, proper_sublists-length, proper_sublists-proper, sublists-cases}
use Rattle.lio_clauses.proofs.Implied.{sat-one, sat-one_parts}

-- a test on sets that a set with more of these principals passes still
pub record Grows (names : List ℕ) (passes : (ℕ → Bool) → Bool) : Type 0 where
  pub rising : in_order nat_lt names ≡ true
  pub grows : (P Q : ℕ → Bool) → ((n : ℕ) → In n names → P n ≡ true → Q n ≡ true) → passes P ≡ true → passes Q ≡ true

-- each set that passes has a member in the clause
abbrev pub Meets : ((ℕ → Bool) → Bool) → List ℕ → Type 0
Meets passes c = (P : ℕ → Bool) → passes P ≡ true → list_any P c ≡ true

pub is_met-from : (names : List ℕ) (passes : (ℕ → Bool) → Bool) (c : List ℕ) → Meets passes c → is_met names passes c ≡ true
is_met-from names passes c h =
    all_by (λ s. not (passes (set_of s)) || list_any (set_of s) c) (sublists names) (λ s m.
    elim (cases_Bool (passes (set_of s))) [
      | inl t ↦ or_right (not (passes (set_of s))) (list_any (set_of s) c) (h (set_of s) t)
      | inr f ↦ or_left (not (passes (set_of s))) (list_any (set_of s) c) (not_from_false (passes (set_of s)) f)
    ])

pub Meets-from : (names : List ℕ) (passes : (ℕ → Bool) → Bool) (c : List ℕ) → Grows names passes → is_met names passes c ≡ true → Meets passes c
Meets-from names passes c g h P p =
    let s : List ℕ = filter P names in
    let there : passes (set_of s) ≡ true = g.grows P (set_of s) (λ n m t. set_of-In n s (In-filter P n names m t)) p in
    let test : (not (passes (set_of s)) || list_any (set_of s) c) ≡ true =
    all_at (λ e. not (passes (set_of e)) || list_any (set_of e) c) (sublists names) h s (sublists-filter P names)
    in
    elim (or_cases (not (passes (set_of s))) (list_any (set_of s) c) test) [
      | inl t ↦ absurd (both_ways (passes (set_of s)) (not-true (passes (set_of s)) t) there)
      | inr t ↦ let r = any_some (set_of s) c t in any_by P c r.0 r.1.0 (In-filter_parts P r.0 names (In-set_of r.0 s r.1.1)).1
    ]

-- the least clauses that are met
abbrev pub IsLeastMet : ((ℕ → Bool) → Bool) → List ℕ → Type 0
IsLeastMet passes c = Meets passes c × ((d : List ℕ) → IsProperSubset d c → Meets passes d → ⊥)

abbrev is_least : List ℕ → ((ℕ → Bool) → Bool) → List ℕ → Bool
is_least names passes c = is_met names passes c && list_all (λ d. not (is_met names passes d)) (proper_sublists c)

pub canonical_of-sublist : (names : List ℕ) (passes : (ℕ → Bool) → Bool) (c : List ℕ) → In c (canonical_of names passes) → In c (sublists names)
unfolding canonical_of
canonical_of-sublist names passes c h = (In-filter_parts (is_least names passes) c (sublists names) h).0

pub canonical_of-rising : (names : List ℕ) (passes : (ℕ → Bool) → Bool) → Grows names passes → (c : List ℕ) → In c (canonical_of names passes) → in_order nat_lt c ≡ true
canonical_of-rising names passes g c h = sublists-rising c names (canonical_of-sublist names passes c h) g.rising

-- what a clause without the numbers outside of another keeps
meets_part : (passes : (ℕ → Bool) → Bool) (c d : List ℕ) → within d c ≡ true → Meets passes d → Meets passes (filter (set_of d) c)
meets_part passes c d w h P p =
    let r = any_some P d (h P p) in
    any_by P (filter (set_of d) c) r.0 (In-filter (set_of d) r.0 c (within-at d c w r.0 r.1.0) (set_of-In r.0 d r.1.0)) r.1.1

pub canonical_of-least : (names : List ℕ) (passes : (ℕ → Bool) → Bool) → Grows names passes → (c : List ℕ) → In c (canonical_of names passes) → IsLeastMet passes c
unfolding canonical_of
canonical_of-least names passes g c h =
    let q = In-filter_parts (is_least names passes) c (sublists names) h in
    let t = and_parts (is_met names passes c) (list_all (λ d. not (is_met names passes d)) (proper_sublists c)) q.1 in
    let met : Meets passes c = Meets-from names passes c g t.0 in
    let least : (d : List ℕ) → IsProperSubset d c → Meets passes d → ⊥ = λ d p m.
    let e : List ℕ = filter (set_of d) c in
    let part : Meets passes e = meets_part passes c d (IsProperSubset-within d c p) m in
    elim (sublists-cases e c (sublists-filter (set_of d) c)) [
      | inl same ↦
          let n = p.misses.0 in
          let P : List ℕ → Type 0 = λ v. In n v in
          let k : In n e = subst P (sym same) (In-set_of n c p.misses.1) in
          both_ways (set_of d n) p.misses.2 (In-filter_parts (set_of d) n c k).1
      | inr proper ↦
          both_ways (is_met names passes e)
          (not-true (is_met names passes e) (all_at (λ v. not (is_met names passes v)) (proper_sublists c) t.1 e proper))
          (is_met-from names passes e part)
    ]
    in
    (met, least)

-- a least clause that is met names only these principals
least_names : (names : List ℕ) (passes : (ℕ → Bool) → Bool) → Grows names passes → (c : List ℕ) → IsLeastMet passes c → (n : ℕ) → In n c → In n names
least_names names passes g c h n m =
    elim (cases_Bool (set_of names n)) [
      | inl t ↦ In-set_of n names t
      | inr f ↦
          let other : ℕ → Bool = λ k. not (k == n) in
          let d : List ℕ = filter other c in
          let inside : within d c ≡ true = within-by d c (λ k q. (In-filter_parts other k c q).0) in
          let misses : In n d → ⊥ = λ q. both_ways (n == n) (not-true (n == n) (In-filter_parts other n c q).1) (eq-eqb n n refl) in
          let proper : IsProperSubset d c =
          record { inside = λ k t. set_of-In k c (within-at d c inside k (In-set_of k d t)); misses = (n, set_of-In n c m, false_from_ne_true (set_of d n) (λ t. misses (In-set_of n d t))) }
          in
          let met : Meets passes d = λ P p.
          let Q : ℕ → Bool = λ k. P k && other k in
          let same : passes Q ≡ true =
          g.grows P Q (λ k q t. and_from (P k) (other k) t
          (not_from_false (k == n) (false_from_ne_true (k == n) (λ u.
          let R : ℕ → Type 0 = λ v. In v names in
          both_ways (set_of names n) f (set_of-In n names (subst R (eqb-true k n u) q)))))) p
          in
          let r = any_some Q c (h.0 Q same) in
          let parts = and_parts (P r.0) (other r.0) r.1.1 in
          any_by P d r.0 (In-filter other r.0 c r.1.0 parts.1) parts.0
          in
          absurd (h.1 d proper met)
    ]

pub canonical_of-In : (names : List ℕ) (passes : (ℕ → Bool) → Bool) → Grows names passes → (c : List ℕ) → in_order nat_lt c ≡ true → IsLeastMet passes c → In c (canonical_of names passes)
unfolding canonical_of
canonical_of-In names passes g c k h =
    let inside : (n : ℕ) → In n c → In n names = least_names names passes g c h in
    let sub : In c (sublists names) = sublists-of_rising c names k g.rising inside in
    let met : is_met names passes c ≡ true = is_met-from names passes c h.0 in
    let least : list_all (λ d. not (is_met names passes d)) (proper_sublists c) ≡ true =
    all_by (λ d. not (is_met names passes d)) (proper_sublists c) (λ d m.
    not_from_false (is_met names passes d) (false_from_ne_true (is_met names passes d) (λ t.
    h.1 d (proper_sublists-proper d c m k) (Meets-from names passes d g t))))
    in
    In-filter (is_least names passes) c (sublists names) sub (and_from (is_met names passes c) (list_all (λ d. not (is_met names passes d)) (proper_sublists c)) met least)

-- a rising clause that is met is a least one, or a shorter one within it is met
least_or_shorter : (names : List ℕ) (passes : (ℕ → Bool) → Bool) → Grows names passes → (c : List ℕ) → in_order nat_lt c ≡ true → Meets passes c
    → In c (canonical_of names passes) ⊎ ((d : List ℕ) × ((length d < length c) × ((in_order nat_lt d ≡ true) × (Meets passes d × (within d c ≡ true)))))
least_or_shorter names passes g c k h =
    elim (cases_Bool (list_all (λ d. not (is_met names passes d)) (proper_sublists c))) [
      | inl t ↦
          let least : (d : List ℕ) → IsProperSubset d c → Meets passes d → ⊥ = λ d p m.
          let e : List ℕ = filter (set_of d) c in
          let part : Meets passes e = meets_part passes c d (IsProperSubset-within d c p) m in
          elim (sublists-cases e c (sublists-filter (set_of d) c)) [
            | inl same ↦
                let n = p.misses.0 in
                let P : List ℕ → Type 0 = λ v. In n v in
                let q : In n e = subst P (sym same) (In-set_of n c p.misses.1) in
                both_ways (set_of d n) p.misses.2 (In-filter_parts (set_of d) n c q).1
            | inr proper ↦
                both_ways (is_met names passes e)
                (not-true (is_met names passes e) (all_at (λ v. not (is_met names passes v)) (proper_sublists c) t e proper))
                (is_met-from names passes e part)
          ]
          in
          inl (canonical_of-In names passes g c k (h, least))
      | inr f ↦
          let r = all_fails (λ d. not (is_met names passes d)) (proper_sublists c) f in
          let sub : In r.0 (sublists c) = proper_sublists-sublists r.0 c r.1.0 in
          inr (r.0, (proper_sublists-length r.0 c r.1.0, (sublists-rising r.0 c sub k, (Meets-from names passes r.0 g (not-false (is_met names passes r.0) r.1.1), within-by r.0 c (sublists-members r.0 c sub)))))
    ]

-- within each rising clause that is met stands a least one
least_below : (names : List ℕ) (passes : (ℕ → Bool) → Bool) → Grows names passes → (fuel : ℕ) (c : List ℕ) → length c < fuel
    → in_order nat_lt c ≡ true → Meets passes c → (d : List ℕ) × (In d (canonical_of names passes) × (within d c ≡ true))
least_below names passes g zero c l k h = absurd (omega arith)
least_below names passes g (suc fuel) c l k h =
    elim (least_or_shorter names passes g c k h) [
      | inl m ↦ (c, (m, within-itself c))
      | inr r ↦
          let shorter : length r.0 < length c = r.1.0 in
          let q = least_below names passes g fuel r.0 (omega arith) r.1.1.0 r.1.1.1.0 in
          (q.0, (q.1.0, within-trans q.0 r.0 c q.1.1 r.1.1.1.1))
    ]

-- exactly the sets that pass satisfy the canonical formula
pub sat-canonical_of : (names : List ℕ) (passes : (ℕ → Bool) → Bool) → Grows names passes → (P : ℕ → Bool) → sat P (canonical_of names passes) ≡ passes P
sat-canonical_of names passes g P =
    same_tests (sat P (canonical_of names passes)) (passes P)
    (λ h.
    elim (cases_Bool (passes P)) [
      | inl t ↦ t
      | inr f ↦
          let outside : ℕ → Bool = λ n. not (P n) in
          let c : List ℕ = filter outside names in
          let met : Meets passes c = λ Q q.
          elim (cases_Bool (list_any Q c)) [
            | inl t ↦ t
            | inr w ↦
                let less : passes P ≡ true =
                g.grows Q P (λ n m u.
                elim (cases_Bool (P n)) [
                  | inl t ↦ t
                  | inr z ↦ absurd (both_ways (Q n) (any_none Q c w n (In-filter outside n names m (not_from_false (P n) z))) u)
                ]) q
                in
                absurd (both_ways (passes P) f less)
          ]
          in
          let r = least_below names passes g (suc (length c)) c (omega arith) (in_order-filter nat_lt outside names g.rising) met in
          let n = any_some P r.0 (all_at (λ d. list_any P d) (canonical_of names passes) h r.0 r.1.0) in
          let out = In-filter_parts outside n.0 names (within-at r.0 c r.1.1 n.0 n.1.0) in
          absurd (both_ways (P n.0) (not-true (P n.0) out.1) n.1.1)
    ])
    (λ p. all_by (λ d. list_any P d) (canonical_of names passes) (λ d m. (canonical_of-least names passes g d m).0 P p))

-- what is implied is what is met
pub Implies-meets : (A : List (List ℕ)) (passes : (ℕ → Bool) → Bool) → ((P : ℕ → Bool) → sat P A ≡ passes P) → (c : List ℕ) → Implies A (c ∷ []) → Meets passes c
Implies-meets A passes e c h P p = sat-one_parts P c (h P (e P ∙ p))

pub meets-Implies : (A : List (List ℕ)) (passes : (ℕ → Bool) → Bool) → ((P : ℕ → Bool) → sat P A ≡ passes P) → (c : List ℕ) → Meets passes c → Implies A (c ∷ [])
meets-Implies A passes e c h P s = sat-one P c (h P (sym (e P) ∙ s))

pub clause-from : (c : List ℕ) → ((n : ℕ) → In n c → nat_lt n 64 ≡ true) → in_order nat_lt c ≡ true → is_clause c ≡ true
clause-from c h k = and_from (list_all (λ n. nat_lt n 64) c) (in_order nat_lt c) (all_by (λ n. nat_lt n 64) c h) k

pub clause-rising : (c : List ℕ) → is_clause c ≡ true → in_order nat_lt c ≡ true
clause-rising c h = (and_parts (list_all (λ n. nat_lt n 64) c) (in_order nat_lt c) h).1

pub clause-below : (c : List ℕ) → is_clause c ≡ true → (n : ℕ) → In n c → nat_lt n 64 ≡ true
clause-below c h n m = all_at (λ k. nat_lt k 64) c (and_parts (list_all (λ k. nat_lt k 64) c) (in_order nat_lt c) h).0 n m

pub canonical_of-ordered : (names : List ℕ) (passes : (ℕ → Bool) → Bool) → Grows names passes → in_order is_before (canonical_of names passes) ≡ true
unfolding canonical_of
canonical_of-ordered names passes g = in_order-filter is_before (is_least names passes) (sublists names) (sublists-ordered names g.rising)

-- it is canonical
pub IsCanonical-canonical_of : (names : List ℕ) (passes : (ℕ → Bool) → Bool) → Grows names passes → ((n : ℕ) → In n names → nat_lt n 64 ≡ true) → IsCanonical (canonical_of names passes)
IsCanonical-canonical_of names passes g small =
    let F : List (List ℕ) = canonical_of names passes in
    let e : (P : ℕ → Bool) → sat P F ≡ passes P = sat-canonical_of names passes g in
    record {
      clauses = all_by is_clause F (λ c m.
          let sub = canonical_of-sublist names passes c m in
          clause-from c (λ n q. small n (sublists-members c names sub n q)) (sublists-rising c names sub g.rising));
      ordered = canonical_of-ordered names passes g;
      exact = λ c k. (
        λ m.
            let l = canonical_of-least names passes g c (In-from_Contains c F m) in
            record { implied = meets-Implies F passes e c l.0; minimal = λ d p i. l.1 d p (Implies-meets F passes e d i) },
        λ l.
            Contains-from_In c F (canonical_of-In names passes g c (clause-rising c k)
            (Implies-meets F passes e c l.implied, λ d p m. l.minimal d p (meets-Implies F passes e d m))),
      );
    }

-- two canonical formulas that the same sets satisfy are equal
same_members : (A B : List (List ℕ)) → IsCanonical A → IsCanonical B → ((P : ℕ → Bool) → sat P A ≡ sat P B) → (c : List ℕ) → In c A → In c B
same_members A B a b e c m =
    let k : is_clause c ≡ true = all_at is_clause A a.clauses c m in
    let l : IsMinimalImplied A c = (a.exact c k).0 (Contains-from_In c A m) in
    In-from_Contains c B ((b.exact c k).1
    (record { implied = λ P s. l.implied P (e P ∙ s); minimal = λ d p i. l.minimal d p (λ P s. i P (sym (e P) ∙ s)) }))

pub canonical-unique : (A B : List (List ℕ)) → IsCanonical A → IsCanonical B → ((P : ℕ → Bool) → sat P A ≡ sat P B) → A ≡ B
canonical-unique A B a b e =
    same_in_order is_before is_before-asym A B a.ordered b.ordered (same_members A B a b e) (same_members B A b a (λ P. sym (e P)))
