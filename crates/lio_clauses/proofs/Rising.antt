-- Keeping the minimal ones of clauses that come in rising number, and of the same clauses in another order.
use Rattle.std.proofs.Common.{◌≡◌, ℕ, ◌+◌, ◌^◌, ◌<◌, ◌≤◌, Bool, true, false, inl, inr, Some, None, List, [], ◌++◌, length, get_or, take, drop, append-nil, sym, ◌∙◌, ap, subst, arith}
use Rattle.std.specs.Prelude.{bit_and}
use Rattle.std.specs.List.{insert, refill}
use Rattle.std.specs.List.Sorted.{IsNonDecreasing, IsPermutation}
use Rattle.std.proofs.lemmas.Bool.{both_ways, cases_order}
use Rattle.std.proofs.lemmas.List.{take_all, drop_all}
use Rattle.std.proofs.lemmas.List.Sorted.{All-permutation, Contains-permutation, IsPermutation-sym}
use Rattle.lio_clauses.specs.Bits.{IsLeastUncovered, IsMinimalOf, IsNextMinimal, KeepsMinimal, covers}
use Rattle.lio_clauses.proofs.Members.{In-place, places-In, In-All, All-In, Contains-from_In}
use Rattle.lio_clauses.proofs.Merged.{covers-insert, covers-new}
use Rattle.lio_clauses.proofs.Reduced.{least-next}

-- the first clauses, up to a place, contain a kept one
abbrev pub CoversFirst : List ℕ → List ℕ → ℕ → Type 0
CoversFirst kept clauses n = (k : ℕ) → k < n → covers kept (get_or clauses k 0) ≡ true

-- the first one in rising number that contains no kept one is the least of these
rising-least : (us ks : List ℕ) (i : ℕ) → IsNonDecreasing us → i < length us → CoversFirst ks us i → covers ks (get_or us i 0) ≡ false
    → IsLeastUncovered ks us (Some (get_or us i 0))
rising-least us ks i rising l first new = (
  Contains-from_In (get_or us i 0) us (In-place 0 us i l),
  new,
  In-All (λ u. covers ks u ≡ false → get_or us i 0 ≤ u) us (places-In (λ u. covers ks u ≡ false → get_or us i 0 ≤ u) 0 us (λ k m f.
      elim (cases_order k i) [
        | inl e ↦ rising i k 0 (omega arith) m
        | inr r ↦ elim r [
          | inl b ↦ absurd (both_ways (covers ks (get_or us k 0)) f (first k b))
          | inr b ↦ rising i k 0 (omega arith) m
        ]
      ])),
)

pub rising-next : (us ks seen : List ℕ) (i : ℕ) (is : Bool) → seen ≡ ks → is ≡ covers seen (get_or us i 0) → is ≡ false
    → IsNonDecreasing us → i < length us → CoversFirst ks us i → IsNextMinimal ks us (get_or us i 0)
rising-next us ks seen i is same test new rising l first =
    least-next us ks (get_or us i 0) (rising-least us ks i rising l first (ap (λ v. covers v (get_or us i 0)) (sym same) ∙ sym test ∙ new))

-- once the last one is seen each contains a kept one
pub first-all : (us ks : List ℕ) (i : ℕ) → length us ≤ i → CoversFirst ks us i → IsLeastUncovered ks us None
first-all us ks i l first = In-All (λ u. covers ks u ≡ true) us (places-In (λ u. covers ks u ≡ true) 0 us (λ k m. first k (omega arith)))

-- one more that contains a kept one
pub first-more : (us ks seen : List ℕ) (i : ℕ) (is : Bool) → seen ≡ ks → is ≡ covers seen (get_or us i 0) → is ≡ true → CoversFirst ks us i
    → CoversFirst ks us (i + 1)
first-more us ks seen i is same test old first k l =
    elim (cases_order k i) [
      | inl e ↦ ap (λ v. covers ks (get_or us v 0)) e ∙ ap (λ v. covers v (get_or us i 0)) (sym same) ∙ sym test ∙ old
      | inr r ↦ elim r [ inl b ↦ first k b | inr b ↦ absurd (omega arith) ]
    ]

-- one more that is kept
pub first-kept : (us ks : List ℕ) (i place : ℕ) → place ≤ length ks → CoversFirst ks us i → CoversFirst (insert ks place (get_or us i 0)) us (i + 1)
first-kept us ks i place p first k l =
    let m : ℕ = get_or us i 0 in
    elim (cases_order k i) [
      | inl e ↦ covers-new ks place m (get_or us k 0) p (ap (λ v. get_or us v 0) e)
      | inr r ↦ elim r [ inl b ↦ covers-insert ks place m (get_or us k 0) p (first k b) | inr b ↦ absurd (omega arith) ]
    ]

-- the order of the clauses doesn't matter

minimal-permuted : (us vs : List ℕ) (m : ℕ) → IsPermutation us vs → IsMinimalOf us m → IsMinimalOf vs m
minimal-permuted us vs m p h = record {
  among = Contains-permutation us vs m p h.among;
  only = All-permutation (λ u. bit_and u m ≡ u → u ≡ m) us vs p h.only;
}

pub next-permuted : (us vs ks : List ℕ) (m : ℕ) → IsPermutation us vs → IsNextMinimal ks us m → IsNextMinimal ks vs m
next-permuted us vs ks m p h = (minimal-permuted us vs m p h.0, h.1)

pub keeps-permuted : (us vs ks : List ℕ) → IsPermutation us vs → KeepsMinimal us ks → KeepsMinimal vs ks
keeps-permuted us vs ks p h = record {
  fits = All-permutation (λ u. u < 2 ^ 64) us vs p h.fits;
  minimal = In-All (IsMinimalOf vs) ks (λ k n. minimal-permuted us vs k p (All-In (IsMinimalOf us) ks h.minimal k n));
  ordered = h.ordered;
  few = h.few;
}

pub covered-permuted : (us vs ks : List ℕ) → IsPermutation us vs → IsLeastUncovered ks us None → IsLeastUncovered ks vs None
covered-permuted us vs ks p h = All-permutation (λ u. covers ks u ≡ true) us vs p h

-- sorting in place

-- what is written over a whole list is all of it
refilled : (xs ws : List ℕ) → length ws ≡ length xs → refill (length xs) xs ws ≡ ws
refilled xs ws e =
    let none : drop (length ws) xs ≡ [] = drop_all (length ws) xs (omega arith) in
    ap (λ v. take (length xs) (ws ++ v)) none ∙ ap (take (length xs)) (append-nil ws) ∙ take_all (length xs) ws (omega arith)

-- clauses that were lent, changed and lent again are as they were changed
pub whole_slice : (items lent changed seen : List ℕ) → lent ≡ items → length changed ≡ length lent → seen ≡ refill (length items) items changed → seen ≡ changed
whole_slice items lent changed seen e l s = s ∙ refilled items changed (l ∙ ap (λ (v : List ℕ). length v) e)

pub sorted_permutes : (us items lent changed seen : List ℕ) → items ≡ us → lent ≡ items → length changed ≡ length lent → IsPermutation lent changed
    → seen ≡ refill (length items) items changed → IsPermutation seen us
sorted_permutes us items lent changed seen is e l p s =
    let P : List ℕ → Type 0 = λ v. IsPermutation us v in
    let Q : List ℕ → Type 0 = λ v. IsPermutation v changed in
    IsPermutation-sym us seen (subst P (sym (whole_slice items lent changed seen e l s)) (subst Q (e ∙ is) p))
