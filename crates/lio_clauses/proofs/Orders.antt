-- Lists in order: parts, joins, and that two lists in order with the same members are equal.
use Rattle.std.proofs.Common.{◌≡◌, ℕ, ◌<◌, Bool, true, false, cond, inl, inr, List, [], ◌∷◌, ◌++◌, map, refl, sym, ◌∙◌, ap, subst, arith}
use Rattle.std.specs.Prelude.{nat_lt}
use Rattle.std.specs.List.{list_all, filter}
use Rattle.std.proofs.lemmas.Bool.{true≢false, and_parts, and_from, ltb-true, lt-ltb, le-ltb, cases_order}
use Rattle.lio_clauses.specs.Canonical.{in_order, is_before}
use Rattle.lio_clauses.proofs.Members.{In, all_at, all_by, In-append_cases, In-filter_parts}

pub in_order-head : {X : Type 0} (before : X → X → Bool) (x : X) (xs : List X) → in_order before (x ∷ xs) ≡ true → (y : X) → In y xs → before x y ≡ true
in_order-head before x xs h y m = all_at (before x) xs (and_parts (list_all (before x) xs) (in_order before xs) h).0 y m

pub in_order-tail : {X : Type 0} (before : X → X → Bool) (x : X) (xs : List X) → in_order before (x ∷ xs) ≡ true → in_order before xs ≡ true
in_order-tail before x xs h = (and_parts (list_all (before x) xs) (in_order before xs) h).1

pub in_order-cons : {X : Type 0} (before : X → X → Bool) (x : X) (xs : List X) → ((y : X) → In y xs → before x y ≡ true) → in_order before xs ≡ true → in_order before (x ∷ xs) ≡ true
in_order-cons before x xs h k = and_from (list_all (before x) xs) (in_order before xs) (all_by (before x) xs h) k

pub in_order-append : {X : Type 0} (before : X → X → Bool) (xs ys : List X) → in_order before xs ≡ true → in_order before ys ≡ true
    → ((x y : X) → In x xs → In y ys → before x y ≡ true) → in_order before (xs ++ ys) ≡ true
in_order-append before [] ys h k between = k
in_order-append before (x ∷ xs) ys h k between =
    in_order-cons before x (xs ++ ys)
    (λ y m. elim (In-append_cases y xs ys m) [ inl a ↦ in_order-head before x xs h y a | inr b ↦ between x y (inl refl) b ])
    (in_order-append before xs ys (in_order-tail before x xs h) k (λ a b m n. between a b (inr m) n))

pub in_order-filter : {X : Type 0} (before : X → X → Bool) (p : X → Bool) (xs : List X) → in_order before xs ≡ true → in_order before (filter p xs) ≡ true
in_order-filter before p [] h = refl
in_order-filter before p (x ∷ xs) h =
    let rest : in_order before (filter p xs) ≡ true = in_order-filter before p xs (in_order-tail before x xs h) in
    elim (p x) as (λ b. in_order before (cond b (x ∷ filter p xs) (filter p xs)) ≡ true) [
      | true ↦ in_order-cons before x (filter p xs) (λ y m. in_order-head before x xs h y (In-filter_parts p y xs m).0) rest
      | false ↦ rest
    ]

pub in_order-map : {X Y : Type 0} (before : X → X → Bool) (after : Y → Y → Bool) (f : X → Y) (xs : List X)
    → ((x y : X) → before x y ≡ true → after (f x) (f y) ≡ true) → in_order before xs ≡ true → in_order after (map f xs) ≡ true
in_order-map before after f [] keeps h = refl
in_order-map {X} {Y} before after f (x ∷ xs) keeps h =
    and_from (list_all (after (f x)) (map f xs)) (in_order after (map f xs))
    (each x xs (λ y m. in_order-head before x xs h y m))
    (in_order-map before after f xs keeps (in_order-tail before x xs h))
  where
    each : (x : X) (ys : List X) → ((y : X) → In y ys → before x y ≡ true) → list_all (after (f x)) (map f ys) ≡ true
    each x [] k = refl
    each x (y ∷ ys) k = and_from (after (f x) (f y)) (list_all (after (f x)) (map f ys)) (keeps x y (k y (inl refl))) (each x ys (λ z m. k z (inr m)))

-- two lists in one order with the same members are equal
pub same_in_order : {X : Type 0} (before : X → X → Bool) → ((x y : X) → before x y ≡ true → before y x ≡ true → ⊥)
    → (xs ys : List X) → in_order before xs ≡ true → in_order before ys ≡ true
    → ((x : X) → In x xs → In x ys) → ((x : X) → In x ys → In x xs) → xs ≡ ys
same_in_order before asym [] [] h k f g = refl
same_in_order before asym [] (y ∷ ys) h k f g = absurd (g y (inl refl))
same_in_order before asym (x ∷ xs) [] h k f g = absurd (f x (inl refl))
same_in_order {X} before asym (x ∷ xs) (y ∷ ys) h k f g =
    let e : x ≡ y =
    elim (f x (inl refl)) [
      | inl e ↦ e
      | inr m ↦
          elim (g y (inl refl)) [
            | inl e ↦ sym e
            | inr n ↦ absurd (asym y x (in_order-head before y ys k x m) (in_order-head before x xs h y n))
          ]
    ]
    in
    let itself : (z : X) → before z z ≡ true → ⊥ = λ z t. asym z z t t in
    let ahead : (z : X) → In z xs → In z ys = λ z m.
    elim (f z (inr m)) [
      | inl q ↦ absurd (itself z (let P : X → Type 0 = λ w. before w z ≡ true in subst P (e ∙ sym q) (in_order-head before x xs h z m)))
      | inr n ↦ n
    ]
    in
    let back : (z : X) → In z ys → In z xs = λ z m.
    elim (g z (inr m)) [
      | inl q ↦ absurd (itself z (let P : X → Type 0 = λ w. before w z ≡ true in subst P (sym e ∙ sym q) (in_order-head before y ys k z m)))
      | inr n ↦ n
    ]
    in
    let rest : xs ≡ ys = same_in_order before asym xs ys (in_order-tail before x xs h) (in_order-tail before y ys k) ahead back in
    cc

-- numbers

pub nat_lt-asym : (m n : ℕ) → nat_lt m n ≡ true → nat_lt n m ≡ true → ⊥
nat_lt-asym m n h k = let a : m < n = ltb-true m n h in let b : n < m = ltb-true n m k in absurd (omega arith)

pub nat_lt-itself : (m : ℕ) → nat_lt m m ≡ false
nat_lt-itself m = le-ltb m m (omega arith)

-- lexicographic order

pub is_before-same : (n : ℕ) (c d : List ℕ) → is_before (n ∷ c) (n ∷ d) ≡ is_before c d
is_before-same n c d = rw (nat_lt-itself n) refl

pub is_before-less : (m n : ℕ) (c d : List ℕ) → m < n → is_before (m ∷ c) (n ∷ d) ≡ true
is_before-less m n c d l = rw (lt-ltb m n l) refl

pub is_before-more : (m n : ℕ) (c d : List ℕ) → n < m → is_before (m ∷ c) (n ∷ d) ≡ false
is_before-more m n c d l = rw (lt-ltb n m l, le-ltb m n (omega arith)) refl

pub is_before-asym : (c d : List ℕ) → is_before c d ≡ true → is_before d c ≡ true → ⊥
is_before-asym [] [] h k = true≢false (sym h)
is_before-asym [] (n ∷ d) h k = true≢false (sym k)
is_before-asym (m ∷ c) [] h k = true≢false (sym h)
is_before-asym (m ∷ c) (n ∷ d) h k =
    elim (cases_order m n) [
      | inl e ↦
          let P : ℕ → Type 0 = λ v. (is_before (v ∷ c) (n ∷ d) ≡ true) → (is_before (n ∷ d) (v ∷ c) ≡ true) → ⊥ in
          let at : P n = λ a b. is_before-asym c d (sym (is_before-same n c d) ∙ a) (sym (is_before-same n d c) ∙ b) in
          subst P (sym e) at h k
      | inr r ↦
          elim r [
            | inl l ↦ true≢false (sym k ∙ is_before-more n m d c l)
            | inr l ↦ true≢false (sym h ∙ is_before-more m n c d l)
          ]
    ]

pub is_before-trans : (b c d : List ℕ) → is_before b c ≡ true → is_before c d ≡ true → is_before b d ≡ true
is_before-trans [] [] d h k = absurd (true≢false (sym h))
is_before-trans [] (m ∷ c) [] h k = absurd (true≢false (sym k))
is_before-trans [] (m ∷ c) (n ∷ d) h k = refl
is_before-trans (l ∷ b) [] d h k = absurd (true≢false (sym h))
is_before-trans (l ∷ b) (m ∷ c) [] h k = absurd (true≢false (sym k))
is_before-trans (l ∷ b) (m ∷ c) (n ∷ d) h k =
    elim (cases_order l m) [
      | inl e ↦
          elim (cases_order m n) [
            | inl f ↦
                let P : ℕ → Type 0 = λ v. (is_before (v ∷ b) (m ∷ c) ≡ true) → is_before (v ∷ b) (n ∷ d) ≡ true in
                let Q : ℕ → Type 0 = λ v. (is_before (v ∷ b) (v ∷ c) ≡ true) → (is_before (v ∷ c) (n ∷ d) ≡ true) → is_before (v ∷ b) (n ∷ d) ≡ true in
                let at : Q n = λ p q. is_before-same n b d ∙ is_before-trans b c d (sym (is_before-same n b c) ∙ p) (sym (is_before-same n c d) ∙ q) in
                let here : P m = λ p. subst Q (sym f) at p k in
                subst P (sym e) here h
            | inr r ↦
                elim r [
                  | inl q ↦ is_before-less l n b d (omega arith)
                  | inr q ↦ absurd (true≢false (sym k ∙ is_before-more m n c d q))
                ]
          ]
      | inr r ↦
          elim r [
            | inl q ↦
                elim (cases_order m n) [
                  | inl f ↦ is_before-less l n b d (omega arith)
                  | inr s ↦
                      elim s [
                        | inl t ↦ is_before-less l n b d (omega arith)
                        | inr t ↦ absurd (true≢false (sym k ∙ is_before-more m n c d t))
                      ]
                ]
            | inr q ↦ absurd (true≢false (sym h ∙ is_before-more l m b c q))
          ]
    ]

pub is_before-total : (c d : List ℕ) → is_before c d ≡ false → (c ≡ d → ⊥) → is_before d c ≡ true
is_before-total [] [] h k = absurd (k refl)
is_before-total [] (n ∷ d) h k = absurd (true≢false h)
is_before-total (m ∷ c) [] h k = refl
is_before-total (m ∷ c) (n ∷ d) h k =
    elim (cases_order m n) [
      | inl e ↦
          let P : ℕ → Type 0 = λ v. (is_before (v ∷ c) (n ∷ d) ≡ false) → ((v ∷ c) ≡ (n ∷ d) → ⊥) → is_before (n ∷ d) (v ∷ c) ≡ true in
          let at : P n = λ a b. is_before-same n d c ∙ is_before-total c d (sym (is_before-same n c d) ∙ a) (λ q. b (ap (λ w. n ∷ w) q)) in
          subst P (sym e) at h k
      | inr r ↦
          elim r [
            | inl l ↦ absurd (true≢false (sym (is_before-less m n c d l) ∙ h))
            | inr l ↦ is_before-less n m d c l
          ]
    ]
