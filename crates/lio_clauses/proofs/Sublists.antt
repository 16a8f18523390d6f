-- The sublists of a list: their members, their order, and which lists are among them.
use Rattle.std.proofs.Common.{◌≡◌, ℕ, ◌<◌, ◌≤◌, Bool, true, false, cond, ◌⊎◌, inl, inr, List, [], ◌∷◌, map, length, refl, sym, ◌∙◌, ap, subst, arith}
use Rattle.std.specs.Prelude.{nat_lt}
use Rattle.std.specs.List.{filter}
use Rattle.std.proofs.lemmas.Bool.{ltb-true, false_from_ne_true}
use Rattle.lio_clauses.specs.Satisfaction.{set_of}
use Rattle.lio_clauses.specs.Implication.{sublists, sublists_but_empty}
use Rattle.lio_clauses.specs.Canonical.{in_order, is_before, proper_sublists, IsProperSubset}
use Rattle.lio_clauses.proofs.Members.{In, In-append_left, In-append_right, In-append_cases, In-map, In-map_cases, In-filter, In-filter_parts}
use Rattle.lio_clauses.proofs.Orders.{in_order-head, in_order-tail, in_order-cons, in_order-append, in_order-map, in_order-filter, is_before-same, is_before-less}
use Rattle.lio_clauses.proofs.Subsets.{set_of-In, In-set_of, within-by, same_rising}

-- one that is not empty begins with an element
pub sublists_but_empty-head : (s xs : List ℕ) → In s (sublists_but_empty xs) → (n : ℕ) × ((t : List ℕ) × ((s ≡ n ∷ t) × In n xs))
sublists_but_empty-head s [] h = absurd h
sublists_but_empty-head s (x ∷ xs) h =
    elim (In-append_cases s (map (λ ys. x ∷ ys) (sublists xs)) (sublists_but_empty xs) h) [
      | inl a ↦ let r = In-map_cases (λ ys. x ∷ ys) s (sublists xs) a in (x, (r.0, (r.1.1, inl refl)))
      | inr b ↦ let r = sublists_but_empty-head s xs b in (r.0, (r.1.0, (r.1.1.0, inr r.1.1.1)))
    ]

-- its elements are elements of the list
pub sublists-members : (s xs : List ℕ) → In s (sublists xs) → (n : ℕ) → In n s → In n xs
sublists-members s [] (inl e) n m = let P : List ℕ → Type 0 = λ v. In n v in absurd (subst P e m)
sublists-members s [] (inr h) n m = absurd h
sublists-members s (x ∷ xs) (inl e) n m = let P : List ℕ → Type 0 = λ v. In n v in absurd (subst P e m)
sublists-members s (x ∷ xs) (inr h) n m =
    elim (In-append_cases s (map (λ ys. x ∷ ys) (sublists xs)) (sublists_but_empty xs) h) [
      | inl a ↦
          let r = In-map_cases (λ ys. x ∷ ys) s (sublists xs) a in
          let P : List ℕ → Type 0 = λ v. In n v in
          let k : (n ≡ x) ⊎ In n r.0 = subst P r.1.1 m in
          elim k [ inl e ↦ inl e | inr q ↦ inr (sublists-members r.0 xs r.1.0 n q) ]
      | inr b ↦ inr (sublists-members s xs (inr b) n m)
    ]

pub sublists-length : (s xs : List ℕ) → In s (sublists xs) → length s ≤ length xs
sublists-length s [] (inl e) = rw e (omega arith)
sublists-length s [] (inr h) = absurd h
sublists-length s (x ∷ xs) (inl e) = rw e (omega arith)
sublists-length s (x ∷ xs) (inr h) =
    elim (In-append_cases s (map (λ ys. x ∷ ys) (sublists xs)) (sublists_but_empty xs) h) [
      | inl a ↦
          let r = In-map_cases (λ ys. x ∷ ys) s (sublists xs) a in
          let k : length r.0 ≤ length xs = sublists-length r.0 xs r.1.0 in
          rw r.1.1 (omega arith)
      | inr b ↦ let k : length s ≤ length xs = sublists-length s xs (inr b) in omega arith
    ]

-- those that pass a test are one of them
pub sublists-filter : (p : ℕ → Bool) (xs : List ℕ) → In (filter p xs) (sublists xs)
sublists-filter p [] = inl refl
sublists-filter p (x ∷ xs) =
    let rest : In (filter p xs) (sublists xs) = sublists-filter p xs in
    elim (p x) as (λ b. In (cond b (x ∷ filter p xs) (filter p xs)) (sublists (x ∷ xs))) [
      | true ↦ inr (In-append_left (x ∷ filter p xs) (map (λ ys. x ∷ ys) (sublists xs)) (sublists_but_empty xs) (In-map (λ ys. x ∷ ys) (filter p xs) (sublists xs) rest))
      | false ↦ elim rest [ inl e ↦ inl e | inr m ↦ inr (In-append_right (filter p xs) (map (λ ys. x ∷ ys) (sublists xs)) (sublists_but_empty xs) m) ]
    ]

-- a sublist of a rising list rises
pub sublists-rising : (s xs : List ℕ) → In s (sublists xs) → in_order nat_lt xs ≡ true → in_order nat_lt s ≡ true
sublists-rising s [] (inl e) h = rw e refl
sublists-rising s [] (inr m) h = absurd m
sublists-rising s (x ∷ xs) (inl e) h = rw e refl
sublists-rising s (x ∷ xs) (inr m) h =
    elim (In-append_cases s (map (λ ys. x ∷ ys) (sublists xs)) (sublists_but_empty xs) m) [
      | inl a ↦
          let r = In-map_cases (λ ys. x ∷ ys) s (sublists xs) a in
          let P : List ℕ → Type 0 = λ v. in_order nat_lt v ≡ true in
          subst P (sym r.1.1)
          (in_order-cons nat_lt x r.0 (λ n q. in_order-head nat_lt x xs h n (sublists-members r.0 xs r.1.0 n q))
          (sublists-rising r.0 xs r.1.0 (in_order-tail nat_lt x xs h)))
      | inr b ↦ sublists-rising s xs (inr b) (in_order-tail nat_lt x xs h)
    ]

-- a rising list is a sublist of each rising list that has its elements
pub sublists-of_rising : (s xs : List ℕ) → in_order nat_lt s ≡ true → in_order nat_lt xs ≡ true → ((n : ℕ) → In n s → In n xs) → In s (sublists xs)
sublists-of_rising s xs h k f =
    let kept : List ℕ = filter (set_of s) xs in
    let e : kept ≡ s =
    same_rising kept s (in_order-filter nat_lt (set_of s) xs k) h
    (within-by kept s (λ n m. In-set_of n s (In-filter_parts (set_of s) n xs m).1))
    (within-by s kept (λ n m. In-filter (set_of s) n xs (f n m) (set_of-In n s m)))
    in
    let P : List ℕ → Type 0 = λ v. In v (sublists xs) in
    subst P e (sublists-filter (set_of s) xs)

-- the sublists of a rising list stand in lexicographic order
pub sublists-ordered : (xs : List ℕ) → in_order nat_lt xs ≡ true → in_order is_before (sublists xs) ≡ true
sublists-ordered xs h =
    in_order-cons is_before [] (sublists_but_empty xs)
    (λ s m. let r = sublists_but_empty-head s xs m in let P : List ℕ → Type 0 = λ v. is_before [] v ≡ true in subst P (sym r.1.1.0) refl)
    (rest xs h)
  where
    rest : (xs : List ℕ) → in_order nat_lt xs ≡ true → in_order is_before (sublists_but_empty xs) ≡ true
    rest [] h = refl
    rest (x ∷ xs) h =
        let below : in_order is_before (sublists_but_empty xs) ≡ true = rest xs (in_order-tail nat_lt x xs h) in
        let all : in_order is_before (sublists xs) ≡ true =
        in_order-cons is_before [] (sublists_but_empty xs)
        (λ s m. let r = sublists_but_empty-head s xs m in let P : List ℕ → Type 0 = λ v. is_before [] v ≡ true in subst P (sym r.1.1.0) refl)
        below
        in
        in_order-append is_before (map (λ ys. x ∷ ys) (sublists xs)) (sublists_but_empty xs)
        (in_order-map is_before is_before (λ ys. x ∷ ys) (sublists xs) (λ a b t. is_before-same x a b ∙ t) all)
        below
        (λ a b m n.
        let r = In-map_cases (λ ys. x ∷ ys) a (sublists xs) m in
        let q = sublists_but_empty-head b xs n in
        let less : x < q.0 = ltb-true x q.0 (in_order-head nat_lt x xs h q.0 q.1.1.1) in
        rw (r.1.1, q.1.1.0) (is_before-less x q.0 r.0 q.1.0 less))

-- proper sublists

pub proper_sublists-sublists : (d c : List ℕ) → In d (proper_sublists c) → In d (sublists c)
proper_sublists-sublists d [] h = absurd h
proper_sublists-sublists d (x ∷ xs) h =
    elim (In-append_cases d (map (λ ys. x ∷ ys) (proper_sublists xs)) (sublists xs) h) [
      | inl a ↦
          let r = In-map_cases (λ ys. x ∷ ys) d (proper_sublists xs) a in
          let P : List ℕ → Type 0 = λ v. In v (sublists (x ∷ xs)) in
          subst P (sym r.1.1) (inr (In-append_left (x ∷ r.0) (map (λ ys. x ∷ ys) (sublists xs)) (sublists_but_empty xs) (In-map (λ ys. x ∷ ys) r.0 (sublists xs) (proper_sublists-sublists r.0 xs r.1.0))))
      | inr b ↦ elim b [ inl e ↦ inl e | inr m ↦ inr (In-append_right d (map (λ ys. x ∷ ys) (sublists xs)) (sublists_but_empty xs) m) ]
    ]

pub proper_sublists-length : (d c : List ℕ) → In d (proper_sublists c) → length d < length c
proper_sublists-length d [] h = absurd h
proper_sublists-length d (x ∷ xs) h =
    elim (In-append_cases d (map (λ ys. x ∷ ys) (proper_sublists xs)) (sublists xs) h) [
      | inl a ↦
          let r = In-map_cases (λ ys. x ∷ ys) d (proper_sublists xs) a in
          let k : length r.0 < length xs = proper_sublists-length r.0 xs r.1.0 in
          rw r.1.1 (omega arith)
      | inr b ↦ let k : length d ≤ length xs = sublists-length d xs b in omega arith
    ]

-- a sublist is the list itself or a proper one
pub sublists-cases : (d c : List ℕ) → In d (sublists c) → (d ≡ c) ⊎ In d (proper_sublists c)
sublists-cases d [] (inl e) = inl e
sublists-cases d [] (inr h) = absurd h
sublists-cases d (x ∷ xs) (inl e) = inr (In-append_right d (map (λ ys. x ∷ ys) (proper_sublists xs)) (sublists xs) (inl e))
sublists-cases d (x ∷ xs) (inr h) =
    elim (In-append_cases d (map (λ ys. x ∷ ys) (sublists xs)) (sublists_but_empty xs) h) [
      | inl a ↦
          let r = In-map_cases (λ ys. x ∷ ys) d (sublists xs) a in
          elim (sublists-cases r.0 xs r.1.0) [
            | inl e ↦ inl (r.1.1 ∙ ap (λ v. x ∷ v) e)
            | inr m ↦
                let P : List ℕ → Type 0 = λ v. In v (proper_sublists (x ∷ xs)) in
                inr (subst P (sym r.1.1) (In-append_left (x ∷ r.0) (map (λ ys. x ∷ ys) (proper_sublists xs)) (sublists xs) (In-map (λ ys. x ∷ ys) r.0 (proper_sublists xs) m)))
          ]
      | inr b ↦ inr (In-append_right d (map (λ ys. x ∷ ys) (proper_sublists xs)) (sublists xs) (inr b))
    ]

-- a proper sublist of a rising list misses an element
pub proper_sublists-misses : (d c : List ℕ) → In d (proper_sublists c) → in_order nat_lt c ≡ true → (n : ℕ) × (In n c × (In n d → ⊥))
proper_sublists-misses d [] h k = absurd h
proper_sublists-misses d (x ∷ xs) h k =
    elim (In-append_cases d (map (λ ys. x ∷ ys) (proper_sublists xs)) (sublists xs) h) [
      | inl a ↦
          let r = In-map_cases (λ ys. x ∷ ys) d (proper_sublists xs) a in
          let q = proper_sublists-misses r.0 xs r.1.0 (in_order-tail nat_lt x xs k) in
          let P : List ℕ → Type 0 = λ v. In q.0 v in
          let less : x < q.0 = ltb-true x q.0 (in_order-head nat_lt x xs k q.0 q.1.0) in (
            q.0,
            (
              inr q.1.0,
              λ m.
                  let w : (q.0 ≡ x) ⊎ In q.0 r.0 = subst P r.1.1 m in
                  elim w [ inl e ↦ absurd (omega arith) | inr z ↦ q.1.1 z ],
            ),
          )
      | inr b ↦ (
        x,
        (
          inl refl,
          λ m.
              let less : x < x = ltb-true x x (in_order-head nat_lt x xs k x (sublists-members d xs b x m)) in
              absurd (omega arith),
        ),
      )
    ]

pub proper_sublists-proper : (d c : List ℕ) → In d (proper_sublists c) → in_order nat_lt c ≡ true → IsProperSubset d c
proper_sublists-proper d c h k =
    let r = proper_sublists-misses d c h k in
    record {
      inside = λ n t. set_of-In n c (sublists-members d c (proper_sublists-sublists d c h) n (In-set_of n d t));
      misses = (r.0, set_of-In r.0 c r.1.0, false_from_ne_true (set_of d r.0) (λ t. r.1.1 (In-set_of r.0 d t)));
    }
