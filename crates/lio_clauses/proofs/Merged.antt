-- Keeping the minimal clauses of two formulas: those of the left one that contain no other clause of the right one, and those of the right one that contain none
-- of the left one.
use Rattle.std.proofs.Common.{◌≡◌, ℕ, suc, zero, ◌+◌, ◌^◌, ◌<◌, ◌≤◌, Bool, true, false, not, ◌&&◌, ◌⊎◌, inl, inr, None, List, [], ◌∷◌, ◌++◌, map, take, length, get_or, refl, sym, ◌∙◌, ap, subst, arith}
use Rattle.std.specs.Prelude.{◌==◌, bit_and}
use Rattle.std.specs.Int.Bits.{and_self}
use Rattle.std.specs.List.{insert, list_any}
use Rattle.std.proofs.lemmas.Bool.{both_ways, and_from, and_parts, cases_Bool, eqb-true, eq-eqb, not-true, not_from_false, false_from_ne_true}
use Rattle.std.proofs.lemmas.List.{take_more}
use Rattle.std.proofs.lemmas.Nat.{and_comm}
use Rattle.lio_clauses.specs.Principals.{principals}
use Rattle.lio_clauses.specs.Canonical.{is_before}
use Rattle.lio_clauses.specs.Bits.{IsFormula, IsLeastUncovered, IsNextMinimal, KeepsMinimal, covers}
use Rattle.lio_clauses.proofs.Members.{In, In-map, In-append_left, In-append_right, In-append_cases, In-All, In-place, All-In, Contains-from_In, any_some, any_none}
use Rattle.lio_clauses.proofs.Orders.{is_before-asym}
use Rattle.lio_clauses.proofs.Forms.{canonical-only, canonical-itself}
use Rattle.lio_clauses.proofs.ClauseBits.{principals-clauses, principals-same, within-from_and}
use Rattle.lio_clauses.proofs.Reduced.{IsWithoutRepeats, in_order-repeats, insert-cases, covers-from, covers-some, and_trans}

-- whether a clause contains one of the kept ones and isn't that one
abbrev pub others : List ℕ → ℕ → Bool
others kept clause = list_any (λ k. not (k == clause) && bit_and k clause == k) kept

others-some : (ks : List ℕ) (m : ℕ) → others ks m ≡ true → (k : ℕ) × (In k ks × ((k ≡ m → ⊥) × (bit_and k m ≡ k)))
others-some ks m h =
    let r = any_some (λ k. not (k == m) && bit_and k m == k) ks h in
    let p = and_parts (not (r.0 == m)) (bit_and r.0 m == r.0) r.1.1 in
    (r.0, (r.1.0, (λ e. both_ways (r.0 == m) (not-true (r.0 == m) p.0) (eq-eqb r.0 m e), eqb-true (bit_and r.0 m) r.0 p.1)))

-- a clause that contains no other one of them is the only one that it contains
others-none : (ks : List ℕ) (m : ℕ) → others ks m ≡ false → (k : ℕ) → In k ks → bit_and k m ≡ k → k ≡ m
others-none ks m h k i e =
    elim (cases_Bool (k == m)) [
      | inl t ↦ eqb-true k m t
      | inr f ↦
          absurd (both_ways (not (k == m) && bit_and k m == k) (any_none (λ k. not (k == m) && bit_and k m == k) ks h k i)
          (and_from (not (k == m)) (bit_and k m == k) (not_from_false (k == m) f) (eq-eqb (bit_and k m) k e)))
    ]

-- no clause of a formula contains another one, nor stands twice

antichain : (ms : List ℕ) → IsFormula ms → (a b : ℕ) → In a ms → In b ms → bit_and a b ≡ a → a ≡ b
antichain ms f a b h k e =
    let A : List (List ℕ) = map principals ms in
    let P : List (List ℕ) → Type 0 = λ v. In (principals b) v in
    principals-same a b (All-In (λ m. m < 2 ^ 64) ms f.fits a h) (All-In (λ m. m < 2 ^ 64) ms f.fits b k)
    (canonical-only A (principals-clauses ms) (principals b) (subst P (sym (canonical-itself A f.canonical)) (In-map principals b ms k))
    (principals a) (In-map principals a ms h) (within-from_and a b e))

repeats-map : {X Y : Type 0} (f : X → Y) (xs : List X) → IsWithoutRepeats (map f xs) → IsWithoutRepeats xs
repeats-map f [] h = tt
repeats-map f (x ∷ xs) h = (λ m. h.0 (In-map f x xs m), repeats-map f xs h.1)

no_repeats : (ms : List ℕ) → IsFormula ms → IsWithoutRepeats ms
no_repeats ms f = repeats-map principals ms (in_order-repeats is_before (λ x t. is_before-asym x x t t) (map principals ms) f.canonical.ordered)

new-at : {X : Type 0} (d : X) (xs : List X) (i : ℕ) → IsWithoutRepeats xs → i < length xs → (x : X) → In x (take i xs) → x ≡ get_or xs i d → ⊥
new-at d [] i u l x m e = absurd (omega arith)
new-at d (y ∷ xs) zero u l x m e = absurd m
new-at {X} d (y ∷ xs) (suc i) u l x (inl s) e = let P : X → Type 0 = λ v. In v xs in u.0 (subst P (sym e ∙ s) (In-place d xs i (omega arith)))
new-at d (y ∷ xs) (suc i) u l x (inr m) e = new-at d xs i u.1 (omega arith) x m e

In-take : {X : Type 0} (x : X) (xs : List X) (i : ℕ) → In x (take i xs) → In x xs
In-take x [] zero m = m
In-take x [] (suc i) m = m
In-take x (y ∷ xs) zero m = absurd m
In-take x (y ∷ xs) (suc i) (inl e) = inl e
In-take x (y ∷ xs) (suc i) (inr m) = inr (In-take x xs i m)

In-insert : {X : Type 0} (z x : X) (ys : List X) (i : ℕ) → i ≤ length ys → (z ≡ x) ⊎ In z ys → In z (insert ys i x)
In-insert z x ys zero l h = h
In-insert z x [] (suc i) l h = absurd (omega arith)
In-insert z x (y ∷ ys) (suc i) l h =
    elim h [
      | inl e ↦ inr (In-insert z x ys i (omega arith) (inl e))
      | inr m ↦ elim m [ inl e ↦ inl e | inr n ↦ inr (In-insert z x ys i (omega arith) (inr n)) ]
    ]

-- what is kept of the clauses that were seen
pub record Merges (left right lefts rights kept : List ℕ) : Type 0 where
  pub keeps : KeepsMinimal (left ++ right) kept
  pub seen : (k : ℕ) → In k kept → In k lefts ⊎ In k rights
  pub of_left : (a : ℕ) → In a lefts → (covers kept a ≡ true) ⊎ (others right a ≡ true)
  pub of_right : (b : ℕ) → In b rights → (covers kept b ≡ true) ⊎ (covers left b ≡ true)

-- one more clause is minimal

pub next-left : (left right kept : List ℕ) (i : ℕ) → IsFormula left → Merges left right (take i left) [] kept → i < length left
    → others right (get_or left i 0) ≡ false → IsNextMinimal kept (left ++ right) (get_or left i 0)
next-left left right kept i f h l none =
    let m : ℕ = get_or left i 0 in
    let here : In m left = In-place 0 left i l in (
      record {
        among = Contains-from_In m (left ++ right) (In-append_left m left right here);
        only = In-All (λ u. bit_and u m ≡ u → u ≡ m) (left ++ right) (λ u n e. elim (In-append_cases u left right n) [
          | inl a ↦ antichain left f u m a here e
          | inr b ↦ others-none right m none u b e
        ]);
      },
      false_from_ne_true (covers kept m) (λ t.
          let r = covers-some kept m t in
          elim (h.seen r.0 r.1.0) [
            | inl a ↦ new-at 0 left i (no_repeats left f) l r.0 a (antichain left f r.0 m (In-take r.0 left i a) here r.1.1)
            | inr b ↦ absurd b
          ]),
    )

pub next-right : (left right kept : List ℕ) (i : ℕ) → IsFormula right → Merges left right left (take i right) kept → i < length right
    → covers left (get_or right i 0) ≡ false → IsNextMinimal kept (left ++ right) (get_or right i 0)
next-right left right kept i f h l none =
    let m : ℕ = get_or right i 0 in
    let here : In m right = In-place 0 right i l in
    let outside : (u : ℕ) → In u left → bit_and u m ≡ u → ⊥ = λ u a e. both_ways (covers left m) none (covers-from left m u a e) in (
      record {
        among = Contains-from_In m (left ++ right) (In-append_right m left right here);
        only = In-All (λ u. bit_and u m ≡ u → u ≡ m) (left ++ right) (λ u n e. elim (In-append_cases u left right n) [
          | inl a ↦ absurd (outside u a e)
          | inr b ↦ antichain right f u m b here e
        ]);
      },
      false_from_ne_true (covers kept m) (λ t.
          let r = covers-some kept m t in
          elim (h.seen r.0 r.1.0) [
            | inl a ↦ outside r.0 a r.1.1
            | inr b ↦ new-at 0 right i (no_repeats right f) l r.0 b (antichain right f r.0 m (In-take r.0 right i b) here r.1.1)
          ]),
    )

-- one more clause is seen

pub covers-insert : (ks : List ℕ) (i m u : ℕ) → i ≤ length ks → covers ks u ≡ true → covers (insert ks i m) u ≡ true
covers-insert ks i m u l h = let r = covers-some ks u h in covers-from (insert ks i m) u r.0 (In-insert r.0 m ks i l (inr r.1.0)) r.1.1

pub covers-new : (ks : List ℕ) (i m u : ℕ) → i ≤ length ks → u ≡ m → covers (insert ks i m) u ≡ true
covers-new ks i m u l e = covers-from (insert ks i m) u m (In-insert m m ks i l (inl refl)) (ap (bit_and m) e ∙ and_self m)

In-more : (u : ℕ) (xs : List ℕ) (i : ℕ) → i < length xs → In u (take (i + 1) xs) → In u (take i xs) ⊎ (u ≡ get_or xs i 0)
In-more u xs i l m =
    let P : List ℕ → Type 0 = λ v. In u v in
    elim (In-append_cases u (take i xs) (get_or xs i 0 ∷ []) (subst P (take_more xs i 0 l) m)) [ inl a ↦ inl a | inr b ↦ elim b [ inl e ↦ inr e | inr z ↦ absurd z ] ]

more-In : (u : ℕ) (xs : List ℕ) (i : ℕ) → i < length xs → In u (take i xs) ⊎ (u ≡ get_or xs i 0) → In u (take (i + 1) xs)
more-In u xs i l h =
    let P : List ℕ → Type 0 = λ v. In u v in
    subst P (sym (take_more xs i 0 l)) (elim h [ inl a ↦ In-append_left u (take i xs) (get_or xs i 0 ∷ []) a | inr e ↦ In-append_right u (take i xs) (get_or xs i 0 ∷ []) (inl e) ])

pub Merges-left : (left right kept : List ℕ) (i place : ℕ) → Merges left right (take i left) [] kept → i < length left → place ≤ length kept
    → KeepsMinimal (left ++ right) (insert kept place (get_or left i 0)) → Merges left right (take (i + 1) left) [] (insert kept place (get_or left i 0))
Merges-left left right kept i place h l p keeps =
    let m : ℕ = get_or left i 0 in
    record {
      keeps = keeps;
      seen = λ k n. elim (insert-cases k m kept place n) [
        | inl e ↦ inl (more-In k left i l (inr e))
        | inr o ↦ elim (h.seen k o) [ inl a ↦ inl (more-In k left i l (inl a)) | inr b ↦ inr b ]
      ];
      of_left = λ a n. elim (In-more a left i l n) [
        | inl o ↦ elim (h.of_left a o) [ inl c ↦ inl (covers-insert kept place m a p c) | inr s ↦ inr s ]
        | inr e ↦ inl (covers-new kept place m a p e)
      ];
      of_right = λ b n. absurd n;
    }

pub skips-left : (left right kept : List ℕ) (i : ℕ) → Merges left right (take i left) [] kept → i < length left → others right (get_or left i 0) ≡ true
    → Merges left right (take (i + 1) left) [] kept
skips-left left right kept i h l t =
    record {
      keeps = h.keeps;
      seen = λ k n. elim (h.seen k n) [ inl a ↦ inl (more-In k left i l (inl a)) | inr b ↦ inr b ];
      of_left = λ a n. elim (In-more a left i l n) [ inl o ↦ h.of_left a o | inr e ↦ inr (ap (others right) e ∙ t) ];
      of_right = λ b n. absurd n;
    }

pub Merges-right : (left right kept : List ℕ) (i place : ℕ) → Merges left right left (take i right) kept → i < length right → place ≤ length kept
    → KeepsMinimal (left ++ right) (insert kept place (get_or right i 0)) → Merges left right left (take (i + 1) right) (insert kept place (get_or right i 0))
Merges-right left right kept i place h l p keeps =
    let m : ℕ = get_or right i 0 in
    record {
      keeps = keeps;
      seen = λ k n. elim (insert-cases k m kept place n) [
        | inl e ↦ inr (more-In k right i l (inr e))
        | inr o ↦ elim (h.seen k o) [ inl a ↦ inl a | inr b ↦ inr (more-In k right i l (inl b)) ]
      ];
      of_left = λ a n. elim (h.of_left a n) [ inl c ↦ inl (covers-insert kept place m a p c) | inr s ↦ inr s ];
      of_right = λ b n. elim (In-more b right i l n) [
        | inl o ↦ elim (h.of_right b o) [ inl c ↦ inl (covers-insert kept place m b p c) | inr s ↦ inr s ]
        | inr e ↦ inl (covers-new kept place m b p e)
      ];
    }

pub skips-right : (left right kept : List ℕ) (i : ℕ) → Merges left right left (take i right) kept → i < length right → covers left (get_or right i 0) ≡ true
    → Merges left right left (take (i + 1) right) kept
skips-right left right kept i h l t =
    record {
      keeps = h.keeps;
      seen = λ k n. elim (h.seen k n) [ inl a ↦ inl a | inr b ↦ inr (more-In k right i l (inl b)) ];
      of_left = h.of_left;
      of_right = λ b n. elim (In-more b right i l n) [ inl o ↦ h.of_right b o | inr e ↦ inr (ap (covers left) e ∙ t) ];
    }

-- once all are seen, each contains a kept one
pub Merges-all : (left right kept : List ℕ) → IsFormula right → Merges left right left right kept → IsLeastUncovered kept (left ++ right) None
Merges-all left right kept f h =
    In-All (λ u. covers kept u ≡ true) (left ++ right) (λ u n. elim (In-append_cases u left right n) [
      | inl a ↦ elim (h.of_left u a) [
        | inl c ↦ c
        | inr o ↦ let r = others-some right u o in above r.0 u r.1.1.1 (on_right r.0 r.1.0)
      ]
      | inr b ↦ on_right u b
    ])
  where
    above : (u v : ℕ) → bit_and u v ≡ u → covers kept u ≡ true → covers kept v ≡ true
    above u v e c = let r = covers-some kept u c in covers-from kept v r.0 r.1.0 (and_trans r.0 u v r.1.1 e)

    on_right : (b : ℕ) → In b right → covers kept b ≡ true
    on_right b n =
        elim (h.of_right b n) [
          | inl c ↦ c
          | inr s ↦
              let a = covers-some left b s in
              elim (h.of_left a.0 a.1.0) [
                | inl c ↦ above a.0 b a.1.1 c
                | inr o ↦
                    let r = others-some right a.0 o in
                    let same : r.0 ≡ b = antichain right f r.0 b r.1.0 n (and_trans r.0 a.0 b r.1.1.1 a.1.1) in
                    let P : ℕ → Type 0 = λ v. bit_and v a.0 ≡ v in
                    absurd (r.1.1.0 (same ∙ sym (subst P same r.1.1.1) ∙ and_comm b a.0 ∙ a.1.1))
              ]
        ]

pub Merges-none : (left right kept : List ℕ) → KeepsMinimal (left ++ right) kept → kept ≡ [] → Merges left right [] [] kept
Merges-none left right kept keeps e =
    let P : List ℕ → Type 0 = λ v. (k : ℕ) → In k v → In k [] ⊎ In k [] in
    record { keeps = keeps; seen = subst P (sym e) (λ k m. absurd m); of_left = λ a n. absurd n; of_right = λ b n. absurd n }
