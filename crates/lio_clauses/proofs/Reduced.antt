-- Keeping the minimal ones of a list of clauses, the least first: what is kept are clauses of the canonical form.
use Rattle.std.proofs.Common.{◌≡◌, ℕ, suc, zero, ◌+◌, ◌^◌, ◌<◌, ◌≤◌, Bool, true, false, ◌⊎◌, inl, inr, Some, None, List, [], ◌∷◌, map, length, get_or, refl, sym, ◌∙◌, ap, subst, arith}
use Rattle.std.specs.Prelude.{◌==◌, bit_and}
use Rattle.std.specs.Int.Bits.{and_self}
use Rattle.std.specs.List.{All, insert}
use Rattle.std.proofs.lemmas.List.{length-map}
use Rattle.std.proofs.lemmas.List.Edits.{length-insert}
use Rattle.std.proofs.lemmas.Bool.{both_ways, cases_Bool, cases_order, eqb-true, eq-eqb, false_from_ne_true}
use Rattle.std.proofs.lemmas.Nat.{and_le_r, and_assoc}
use Rattle.lio_clauses.specs.Principals.{principals}
use Rattle.lio_clauses.specs.Canonical.{in_order, is_before, IsCanonical, canonical}
use Rattle.lio_clauses.specs.Width.{IsWide}
use Rattle.lio_clauses.specs.Bits.{IsFormula, IsLeastUncovered, IsMinimalOf, IsNextMinimal, KeepsMinimal, covers, mask_before}
use Rattle.lio_clauses.proofs.Members.{In, In-place, In-map, In-map_cases, any_by, any_some, In-from_Contains, All-In, In-All}
use Rattle.lio_clauses.proofs.Orders.{in_order-head, in_order-tail, in_order-cons, in_order-map, same_in_order, is_before-asym, is_before-trans, is_before-total}
use Rattle.lio_clauses.proofs.Subsets.{within}
use Rattle.lio_clauses.proofs.Forms.{canonical-only, canonical-among, canonical-minimal, canonical-ordered, IsCanonical-canonical}
use Rattle.lio_clauses.proofs.ClauseBits.{principals-clauses, principals-same, within-from_and, and-from_within}

-- lengths

-- no element stands twice
abbrev pub IsWithoutRepeats : {X : Type 0} → List X → Type 0
IsWithoutRepeats [] = Unit {0}
IsWithoutRepeats (x ∷ xs) = (In x xs → ⊥) × IsWithoutRepeats xs

one_less : {X : Type 0} (x : X) (ys : List X) → In x ys → (zs : List X) × ((length zs + 1 ≡ length ys) × ((y : X) → (y ≡ x → ⊥) → In y ys → In y zs))
one_less x [] h = absurd h
one_less x (y ∷ ys) (inl e) = (ys, (omega arith, λ z o m. elim m [ inl s ↦ absurd (o (s ∙ sym e)) | inr t ↦ t ]))
one_less x (y ∷ ys) (inr h) =
    let r = one_less x ys h in
    let l : length r.0 + 1 ≡ length ys = r.1.0 in
    (y ∷ r.0, (omega arith, λ z o m. elim m [ inl s ↦ inl s | inr t ↦ inr (r.1.1 z o t) ]))

pub length-members : {X : Type 0} (xs ys : List X) → IsWithoutRepeats xs → ((x : X) → In x xs → In x ys) → length xs ≤ length ys
length-members [] ys d f = omega arith
length-members {X} (x ∷ xs) ys d f =
    let r = one_less x ys (f x (inl refl)) in
    let l : length r.0 + 1 ≡ length ys = r.1.0 in
    let P : X → Type 0 = λ v. In v xs in
    let k : length xs ≤ length r.0 = length-members xs r.0 d.1 (λ y m. r.1.1 y (λ e. d.0 (subst P e m)) (f y (inr m))) in
    omega arith

pub in_order-repeats : {X : Type 0} (before : X → X → Bool) → ((x : X) → before x x ≡ true → ⊥) → (xs : List X) → in_order before xs ≡ true → IsWithoutRepeats xs
in_order-repeats before irr [] h = tt
in_order-repeats before irr (x ∷ xs) h = (λ m. irr x (in_order-head before x xs h x m), in_order-repeats before irr xs (in_order-tail before x xs h))

pub in_order-places : {X : Type 0} (before : X → X → Bool) (d : X) (xs : List X) (i j : ℕ) → in_order before xs ≡ true → i < j → j < length xs
    → before (get_or xs i d) (get_or xs j d) ≡ true
in_order-places before d [] i j h l k = absurd (omega arith)
in_order-places before d (x ∷ xs) i zero h l k = absurd (omega arith)
in_order-places before d (x ∷ xs) zero (suc j) h l k = in_order-head before x xs h (get_or xs j d) (In-place d xs j (omega arith))
in_order-places before d (x ∷ xs) (suc i) (suc j) h l k = in_order-places before d xs i j (in_order-tail before x xs h) (omega arith) (omega arith)

-- what does not stand before an element of a list in order stands before none ahead of it
pub not_before-ahead : (m : ℕ) (ks : List ℕ) (i : ℕ) → in_order mask_before ks ≡ true → i < length ks → mask_before m (get_or ks i 0) ≡ false
    → (k : ℕ) → k ≤ i → mask_before m (get_or ks k 0) ≡ false
not_before-ahead m ks i o l f k h =
    elim (cases_order k i) [
      | inl e ↦ ap (λ v. mask_before m (get_or ks v 0)) e ∙ f
      | inr r ↦ elim r [
        | inl b ↦
            false_from_ne_true (mask_before m (get_or ks k 0)) (λ t.
            both_ways (mask_before m (get_or ks i 0)) f
            (is_before-trans (principals m) (principals (get_or ks k 0)) (principals (get_or ks i 0)) t (in_order-places mask_before 0 ks k i o b l)))
        | inr b ↦ absurd (omega arith)
      ]
    ]

-- putting an element in its place

pub insert-cases : {X : Type 0} (z x : X) (ys : List X) (i : ℕ) → In z (insert ys i x) → (z ≡ x) ⊎ In z ys
insert-cases z x [] zero h = h
insert-cases z x [] (suc i) h = h
insert-cases z x (y ∷ ys) zero h = h
insert-cases z x (y ∷ ys) (suc i) h = elim h [ inl e ↦ inr (inl e) | inr m ↦ elim (insert-cases z x ys i m) [ inl e ↦ inl e | inr q ↦ inr (inr q) ] ]

pub in_order-insert : {X : Type 0} (before : X → X → Bool) → ((x y z : X) → before x y ≡ true → before y z ≡ true → before x z ≡ true)
    → (x d : X) (ys : List X) (i : ℕ) → in_order before ys ≡ true → i ≤ length ys
    → ((y : X) → In y ys → before x y ≡ false → before y x ≡ true)
    → ((j : ℕ) → j < i → before x (get_or ys j d) ≡ false)
    → (i < length ys → before x (get_or ys i d) ≡ true)
    → in_order before (insert ys i x) ≡ true
in_order-insert before trans x d [] zero h l total low here = refl
in_order-insert before trans x d [] (suc i) h l total low here = absurd (omega arith)
in_order-insert before trans x d (y ∷ ys) zero h l total low here =
    let first : before x y ≡ true = here (omega arith) in
    in_order-cons before x (y ∷ ys)
    (λ z m. elim m [
      | inl e ↦ ap (before x) e ∙ first
      | inr q ↦ trans x y z first (in_order-head before y ys h z q)
    ])
    h
in_order-insert before trans x d (y ∷ ys) (suc i) h l total low here =
    in_order-cons before y (insert ys i x)
    (λ z m. elim (insert-cases z x ys i m) [
      | inl e ↦ ap (before y) e ∙ total y (inl refl) (low 0 (omega arith))
      | inr q ↦ in_order-head before y ys h z q
    ])
    (in_order-insert before trans x d ys i (in_order-tail before y ys h) (omega arith)
    (λ z m. total z (inr m)) (λ j k. low (suc j) (omega arith)) (λ k. here (omega arith)))

-- what is kept

fits-at : (us ks : List ℕ) → KeepsMinimal us ks → (u : ℕ) → In u us → u < 2 ^ 64
fits-at us ks p = All-In (λ u. u < 2 ^ 64) us p.fits

minimal-at : (us ks : List ℕ) → KeepsMinimal us ks → (k : ℕ) → In k ks → IsMinimalOf us k
minimal-at us ks p = All-In (IsMinimalOf us) ks p.minimal

among : (us : List ℕ) (m : ℕ) → IsMinimalOf us m → In m us
among us m q = In-from_Contains m us q.among

only : (us : List ℕ) (m : ℕ) → IsMinimalOf us m → (u : ℕ) → In u us → bit_and u m ≡ u → u ≡ m
only us m q = All-In (λ u. bit_and u m ≡ u → u ≡ m) us q.only

kept-fits : (us ks : List ℕ) → KeepsMinimal us ks → (k : ℕ) → In k ks → k < 2 ^ 64
kept-fits us ks p k h = fits-at us ks p k (among us k (minimal-at us ks p k h))

pub covers-from : (ks : List ℕ) (m k : ℕ) → In k ks → bit_and k m ≡ k → covers ks m ≡ true
covers-from ks m k h e = any_by (λ v. bit_and v m == v) ks k h (eq-eqb (bit_and k m) k e)

pub covers-some : (ks : List ℕ) (m : ℕ) → covers ks m ≡ true → (k : ℕ) × (In k ks × (bit_and k m ≡ k))
covers-some ks m h = let r = any_some (λ v. bit_and v m == v) ks h in (r.0, (r.1.0, eqb-true (bit_and r.0 m) r.0 r.1.1))

pub and_trans : (k u m : ℕ) → bit_and k u ≡ k → bit_and u m ≡ u → bit_and k m ≡ k
and_trans k u m e f = ap (λ v. bit_and v m) (sym e) ∙ and_assoc m k u ∙ ap (bit_and k) f ∙ e

-- a clause that contains no kept one is none of them
new-other : (ks : List ℕ) (m : ℕ) → covers ks m ≡ false → (k : ℕ) → In k ks → m ≡ k → ⊥
new-other ks m c k h e = both_ways (covers ks m) c (covers-from ks m k h (ap (bit_and k) e ∙ and_self k))

-- the least clause that contains no kept one is minimal
pub least-next : (us ks : List ℕ) (m : ℕ) → IsLeastUncovered ks us (Some m) → IsNextMinimal ks us m
least-next us ks m h = (
  record {
    among = h.0;
    only = In-All (λ u. bit_and u m ≡ u → u ≡ m) us (λ u p e.
        let below : u ≤ m = let k : bit_and u m ≤ m = and_le_r u m in let P : ℕ → Type 0 = λ v. v ≤ m in subst P e k in
        elim (cases_Bool (covers ks u)) [
          | inl t ↦ let r = covers-some ks u t in absurd (both_ways (covers ks m) h.1 (covers-from ks m r.0 r.1.0 (and_trans r.0 u m r.1.1 e)))
          | inr f ↦ let above : m ≤ u = All-In (λ u. covers ks u ≡ false → m ≤ u) us h.2 u p f in omega arith
        ]);
  },
  h.1,
)

-- it and a kept one do not contain each other
pub next-apart : (us ks : List ℕ) (m : ℕ) → KeepsMinimal us ks → IsNextMinimal ks us m → All (λ k. (bit_and k m ≡ k → ⊥) × (bit_and m k ≡ m → ⊥)) ks
next-apart us ks m p h =
    In-All (λ k. (bit_and k m ≡ k → ⊥) × (bit_and m k ≡ m → ⊥)) ks (λ k i. (
      λ e. both_ways (covers ks m) h.1 (covers-from ks m k i e),
      λ e. new-other ks m h.1 k i (only us k (minimal-at us ks p k i) m (among us m h.0) e),
    ))

-- nothing is kept at first
pub KeepsMinimal-none : (us ks : List ℕ) → All (λ u. u < 2 ^ 64) us → ks ≡ [] → KeepsMinimal us ks
KeepsMinimal-none us ks fits e =
    subst (KeepsMinimal us) (sym e) (record { fits = fits; minimal = λ k d l. absurd (omega arith); ordered = refl; few = omega arith })

-- one more is kept at its place
pub KeepsMinimal-next : (us ks : List ℕ) (m i : ℕ) → KeepsMinimal us ks → IsNextMinimal ks us m → (length ks ≡ 64 → ⊥) → i ≤ length ks
    → ((j : ℕ) → j < i → mask_before m (get_or ks j 0) ≡ false) → (i < length ks → mask_before m (get_or ks i 0) ≡ true) → KeepsMinimal us (insert ks i m)
KeepsMinimal-next us ks m i p h room l low here =
    let q : IsMinimalOf us m = h.0 in
    let longer : length (insert ks i m) ≡ length ks + 1 = length-insert ks i m l in
    let few : length ks ≤ 64 = p.few in
    record {
      fits = p.fits;
      minimal = In-All (IsMinimalOf us) (insert ks i m) (λ k n. elim (insert-cases k m ks i n) [
        | inl e ↦ subst (IsMinimalOf us) (sym e) q
        | inr o ↦ minimal-at us ks p k o
      ]);
      ordered =
          in_order-insert mask_before (λ x y z. is_before-trans (principals x) (principals y) (principals z)) m 0 ks i p.ordered l
          (λ y n f. is_before-total (principals m) (principals y) f (λ e.
          new-other ks m h.1 y n (principals-same m y (fits-at us ks p m (among us m q)) (kept-fits us ks p y n) e)))
          low here;
      few = omega arith;
    }

-- the kept clauses are clauses of the canonical form
minimal-canonical : (us : List ℕ) (m : ℕ) → ((u : ℕ) → In u us → u < 2 ^ 64) → IsMinimalOf us m → In (principals m) (canonical (map principals us))
minimal-canonical us m fits q =
    canonical-minimal (map principals us) (principals-clauses us) (principals m) (In-map principals m us (among us m q)) (λ d n w.
    let r = In-map_cases principals d us n in
    let P : List ℕ → Type 0 = λ v. within v (principals m) ≡ true in
    let e : bit_and r.0 m ≡ r.0 = and-from_within r.0 m (fits r.0 r.1.0) (fits m (among us m q)) (subst P r.1.1 w) in
    r.1.1 ∙ ap principals (only us m q r.0 r.1.0 e))

kept-ordered : (us ks : List ℕ) → KeepsMinimal us ks → in_order is_before (map principals ks) ≡ true
kept-ordered us ks p = in_order-map mask_before is_before principals ks (λ x y t. t) p.ordered

kept-among : (us ks : List ℕ) → KeepsMinimal us ks → (c : List ℕ) → In c (map principals ks) → In c (canonical (map principals us))
kept-among us ks p c h =
    let r = In-map_cases principals c ks h in
    let P : List ℕ → Type 0 = λ v. In v (canonical (map principals us)) in
    subst P (sym r.1.1) (minimal-canonical us r.0 (fits-at us ks p) (minimal-at us ks p r.0 r.1.0))

-- once each clause contains a kept one, the kept ones are the canonical form
pub kept-canonical : (us ks : List ℕ) → KeepsMinimal us ks → IsLeastUncovered ks us None → map principals ks ≡ canonical (map principals us)
kept-canonical us ks p all =
    same_in_order is_before is_before-asym (map principals ks) (canonical (map principals us)) (kept-ordered us ks p) (canonical-ordered (map principals us))
    (kept-among us ks p)
    (λ c h.
    let r = In-map_cases principals c us (canonical-among (map principals us) (principals-clauses us) c h) in
    let k = covers-some ks r.0 (All-In (λ u. covers ks u ≡ true) us all r.0 r.1.0) in
    let P : List ℕ → Type 0 = λ v. within (principals k.0) v ≡ true in
    let e : principals k.0 ≡ c =
    canonical-only (map principals us) (principals-clauses us) c h (principals k.0)
    (In-map principals k.0 us (among us k.0 (minimal-at us ks p k.0 k.1.0)))
    (subst P (sym r.1.1) (within-from_and k.0 r.0 k.1.1))
    in
    let Q : List ℕ → Type 0 = λ v. In v (map principals ks) in
    subst Q e (In-map principals k.0 ks k.1.0))

pub kept-formula : (us ks : List ℕ) → KeepsMinimal us ks → IsLeastUncovered ks us None → IsFormula ks
kept-formula us ks p all = record {
  fits = In-All (λ m. m < 2 ^ 64) ks (kept-fits us ks p);
  canonical = subst IsCanonical (sym (kept-canonical us ks p all)) (IsCanonical-canonical (map principals us) (principals-clauses us));
  few = p.few;
}

-- where 64 are kept and one more clause is minimal, the canonical form is wide
pub kept-wide : (us ks : List ℕ) (m : ℕ) → KeepsMinimal us ks → IsNextMinimal ks us m → length ks ≡ 64 → IsWide (canonical (map principals us))
kept-wide us ks m p h full =
    let q : IsMinimalOf us m = h.0 in
    let l : length (map principals (m ∷ ks)) ≤ length (canonical (map principals us)) =
    length-members (map principals (m ∷ ks)) (canonical (map principals us)) (
      λ n.
          let r = In-map_cases principals (principals m) ks n in
          new-other ks m h.1 r.0 r.1.0 (principals-same m r.0 (fits-at us ks p m (among us m q)) (kept-fits us ks p r.0 r.1.0) r.1.1),
      in_order-repeats is_before (λ x t. is_before-asym x x t t) (map principals ks) (kept-ordered us ks p),
    )
    (λ x n. elim n [
      | inl e ↦ let P : List ℕ → Type 0 = λ v. In v (canonical (map principals us)) in subst P (sym e) (minimal-canonical us m (fits-at us ks p) q)
      | inr o ↦ kept-among us ks p x o
    ])
    in
    let e : length (map principals ks) ≡ length ks = length-map ks principals in
    omega arith
